-- The fields of a `National` are its four texts one after the other, and where three of them end.
use Rattle.std.specs.Prelude.{◌-◌, ◌≤◌, length, take, drop}
use Rattle.fints_params.specs.Nationals.{NationalValue}
use Rattle.fints_params.specs.declared.national.National.TheInside.{Inside}

abbrev pub four_texts : Inside → NationalValue
four_texts n = record {
  number = take n.number_end n.texts.items;
  subaccount = take (n.subaccount_end - n.number_end) (drop n.number_end n.texts.items);
  country = take (n.country_end - n.subaccount_end) (drop n.subaccount_end n.texts.items);
  bank = drop n.country_end n.texts.items;
}

pub record IsNational (n : Inside) : Type 0 where
  pub subaccount_after : n.number_end ≤ n.subaccount_end
  pub country_after : n.subaccount_end ≤ n.country_end
  pub within : n.country_end ≤ length n.texts.items
