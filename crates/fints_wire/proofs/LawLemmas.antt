-- The laws, each with its proof, for the proofs of the crates above.
use Rattle.std.specs.Prelude.{List}
use Rattle.fints_script_rows.specs.declared.fields.NamedField.{NamedField}
use Rattle.fints_script.specs.Plans.{Admits}
use Rattle.fints_wire.specs.Choices.{longest_choice, shortest_choice}
use Rattle.fints_wire.specs.Laws.{AccountsArePutIn, BodyHasNoOthers, BodyIsTemplates, DialogIsOneItem, EachSignerEnds, ElementsAreFilled, FieldsArePutIn, LiteralsStand, LongestValuesAreMost, MessagesAreShort, OnlyItsItemsAreSet, SetValueIsAdmitted}
use Rattle.fints_wire.specs.Views.{MessagesAreRead}
use Rattle.fints_wire.proofs.ViewLemmas.{messages_are_read as messages_are_read_of}
use Rattle.fints_wire.proofs.Bodies.{body_at, body_count, ends_count}
use Rattle.fints_wire.proofs.ChoiceLemmas.{longest_admitted, shortest_admitted}
use Rattle.fints_wire.proofs.Filled.{values_filled, literals_stay, put_in, account_stands, dialog_stands, set_admitted, set_items}
use Rattle.fints_wire.proofs.WorstSizes.{longest_is_most}
use Rattle.fints_wire.proofs.Weighing.{message_light}
use Rattle.fints_script_fields.proofs.ClassLawLemmas.{account_values_are_listed}
use Rattle.fints_syntax.proofs.LawLemmas.{written_is_spelled_head, written_is_spelled_segment, written_is_spelled_values}

pub messages_are_read : MessagesAreRead
messages_are_read = messages_are_read_of written_is_spelled_segment written_is_spelled_values written_is_spelled_head

pub bodies_are_templates_segments : BodyIsTemplates
bodies_are_templates_segments = body_at

pub bodies_are_templates_count : BodyHasNoOthers
bodies_are_templates_count = body_count

pub bodies_are_templates_signatures : EachSignerEnds
bodies_are_templates_signatures = ends_count

pub extremes_are_admitted_longest : (fields : List NamedField) → Admits fields (longest_choice fields)
extremes_are_admitted_longest = longest_admitted

pub extremes_are_admitted_shortest : (fields : List NamedField) → Admits fields (shortest_choice fields)
extremes_are_admitted_shortest = shortest_admitted

pub elements_are_filled_values : ElementsAreFilled
elements_are_filled_values = values_filled

pub elements_are_filled_literal : LiteralsStand
elements_are_filled_literal = literals_stay

pub fields_are_put_in : FieldsArePutIn
fields_are_put_in = put_in

pub accounts_are_put_in : AccountsArePutIn
accounts_are_put_in = account_stands account_values_are_listed

pub dialog_is_one_item : DialogIsOneItem
dialog_is_one_item = dialog_stands

pub values_may_be_set_admitted : SetValueIsAdmitted
values_may_be_set_admitted = set_admitted

pub values_may_be_set_items : OnlyItsItemsAreSet
values_may_be_set_items = set_items

pub none_is_longer_most : LongestValuesAreMost
none_is_longer_most script step values lower number sound h admits low le small = longest_is_most script step number sound h small values lower admits low le

pub none_is_longer_short : MessagesAreShort
none_is_longer_short script step values number sound h admits small = (message_light script step values number sound h admits small).1
