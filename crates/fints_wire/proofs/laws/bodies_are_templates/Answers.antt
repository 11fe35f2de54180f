use Rattle.fints_wire.proofs.LawLemmas.{bodies_are_templates_segments, bodies_are_templates_count, bodies_are_templates_signatures}
use Rattle.fints_wire.proofs.laws.bodies_are_templates.Goals as goal

pub returns-clause-segments : goal.returns-clause-segments
returns-clause-segments c = bodies_are_templates_segments

pub returns-clause-count : goal.returns-clause-count
returns-clause-count c = bodies_are_templates_count

pub returns-clause-signatures : goal.returns-clause-signatures
returns-clause-signatures c = bodies_are_templates_signatures
