use Rattle.ref_mark.proofs.SafeMarks.{edge_facts}
use Rattle.ref_mark.proofs.laws.no_black_object_leads_to_a_white_one.Goals as goal

pub returns : goal.returns
returns c = edge_facts
