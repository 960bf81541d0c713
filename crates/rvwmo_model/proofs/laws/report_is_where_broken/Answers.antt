use Rattle.rvwmo_model.proofs.Answered.{reported_where}
use Rattle.rvwmo_model.proofs.laws.report_is_where_broken.Goals as goal

pub returns : goal.returns
returns c = reported_where
