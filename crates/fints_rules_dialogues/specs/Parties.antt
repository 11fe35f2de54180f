-- Whose an exchange is: the bank and the customer that HKIDN names (FinTS 3.0, Formals, identification).
use Rattle.std.specs.Prelude.{codes, ◌&&◌, Bool, List, [], ◌∷◌, ◌++◌, Option}
use Rattle.std.specs.Option.{is_some, option_and_then, option_map, unwrap_or}
use Rattle.std.specs.Str.{bytes_eq}
use Rattle.fints_syntax_segments.specs.Values.{value_at}
use Rattle.fints_syntax_segments.specs.declared.item.OwnedSegment.{OwnedSegment}
use Rattle.fints_rules_messages.specs.Messages.{MessageView}
use Rattle.fints_rules_dialogues.specs.Nearest.{first_in, nearest}
use Rattle.fints_rules_dialogues.specs.declared.parties.Party.{Party}
use Rattle.fints_rules_dialogues.specs.declared.reading.Exchange.{Exchange}

abbrev pub same_bank : Party → Party → Bool
same_bank a b = bytes_eq a.country b.country && bytes_eq a.code b.code

abbrev pub same_customer : Party → Party → Bool
same_customer a b = same_bank a b && bytes_eq a.customer b.customer

abbrev pub is_hkidn : OwnedSegment → Bool
is_hkidn s = bytes_eq s.head.id (codes "HKIDN")

-- element 2 is the bank, its country and its code; element 3 is the customer
abbrev pub party_in : OwnedSegment → Party
party_in s = record { country = value_at s 2 1; code = value_at s 2 2; customer = value_at s 3 1 }

-- the party that a message names, in its first HKIDN
abbrev pub party_named : MessageView → Option Party
party_named m = option_map party_in (first_in is_hkidn m.body)

abbrev pub names_party : Exchange → Bool
names_party e = is_some (party_named e.message)

-- where no message names a party
abbrev pub nobody : Party
nobody = record { country = []; code = []; customer = [] }

-- the party that the last of these exchanges names, or where none does, the first of those after them that does
abbrev pub party_at : List Exchange → List Exchange → Party
party_at before after =
    unwrap_or (option_and_then (λ e. party_named e.message) (nearest names_party before after)) nobody

-- the party of each exchange after those
abbrev pub parties_after : List Exchange → List Exchange → List Party
parties_after before [] = []
parties_after before (e ∷ es) = party_at (before ++ e ∷ []) es ∷ parties_after (before ++ e ∷ []) es

-- the party of each exchange of a recording: that of the last HKIDN so far, or else of the first one
abbrev pub parties : List Exchange → List Party
parties exchanges = parties_after [] exchanges
