use Rattle.std.proofs.Common.{◌≡◌, ◌+◌, ◌++◌, ◌-◌, drop, length}
use Rattle.std.specs.List.{filter_map, count_by}
use Rattle.fints_params.specs.Accounts.{entry_of, is_odd_element}
use Rattle.fints_params.proofs.accounts.entries_of.Given as goal

abbrev pub invariant-loop-at : goal.invariant-loop-at
invariant-loop-at l =
    record {
      entries : l.entries.items ++ filter_map entry_of (drop l.at l.elements) ≡ filter_map entry_of
          (drop 9 l.elements);
      skipped : l.skipped + count_by is_odd_element (drop l.at l.elements) ≡ count_by is_odd_element
          (drop 9 l.elements);
    }

abbrev pub decreases-loop-at : goal.decreases-loop-at
decreases-loop-at l = length l.elements - l.at
