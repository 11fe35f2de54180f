-- The values of an array, in order. Only proofs use this file.
use Rattle.std.proofs.Common.{◌≡◌, List, [], ◌∷◌, map, refl, ap, sym, ◌∙◌}
use Rattle.std.specs.Prelude.{Vec}
use Rattle.std.specs.declared.alloc.Global.{Global}
use Rattle.toml.specs.declared.value.Value.{Value}
use Rattle.toml.specs.declared.value.Value.TheVariants.{Array}
use Rattle.toml.specs.Data.{Data, array, Items}
use Rattle.toml.specs.View.{view, items_view}
use Rattle.toml.proofs.Views.{view-Array}
use Rattle.fints_syntax_texts.specs.Document.{item_list}

pub item_list-view : (vs : List Value) → item_list (items_view vs) ≡ map view vs
item_list-view [] = refl
item_list-view (v ∷ vs) = ap (λ ds. view v ∷ ds) (item_list-view vs)

-- what is said of an array by its entries
pub of_array : {X : Type 0} (of : Data → X) (entries : List Data → X)
    → ((ds : Items) → of (array ds) ≡ entries (item_list ds)) → (v : Value) (vs : Vec Value Global)
    → v ≡ Array vs → entries (map view vs.items) ≡ of (view v)
of_array of entries same v vs is =
    ap entries (sym (item_list-view vs.items)) ∙ sym (same (items_view vs.items))
    ∙ ap of (sym (view-Array vs) ∙ ap view (sym is))
