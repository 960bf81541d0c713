use Rattle.order_laws.proofs.faults.order_faults_have_places.Goals as goal
use Rattle.order_laws.proofs.FaultPlaces.{order_faults_have_places}

pub returns : goal.returns
returns c = order_faults_have_places
