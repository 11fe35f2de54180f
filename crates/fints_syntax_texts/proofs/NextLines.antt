-- Where a text begins with no line that ends within the limit.
use Rattle.std.proofs.Common.{ℕ, ◌-◌, ◌<◌, ◌≡◌, List, length, subst, ap, sym, ◌∙◌, arith}
use Rattle.fints_syntax_texts.specs.Lines.{NoFeed, IsSplit, HasNoNextLine}
use Rattle.fints_syntax_texts.specs.declared.lines.TheConstants.{MAX_TEXT}
use Rattle.fints_syntax_texts.specs.LineLaws.{split_same, split_none}

pub no_feed_no_line : (whole : ℕ) (rest : List ℕ) → NoFeed rest → HasNoNextLine whole rest
no_feed_no_line whole rest none line more next = split_none 10 line more (subst NoFeed next.split.0 none)

pub late_no_line : (whole : ℕ) (rest text after : List ℕ) → IsSplit 10 rest text after
    → MAX_TEXT < whole - length after → HasNoNextLine whole rest
late_no_line whole rest text after split late line more next =
    let same = split_same 10 text after line more split.1 next.split.1 (sym split.0 ∙ next.split.0) in
    let count : length after ≡ length more = ap length same.1 in
    let within = next.within in
    omega arith
