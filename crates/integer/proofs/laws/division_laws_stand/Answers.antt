-- The laws of division are proved in proofs/Division.antt.
use Rattle.integer.proofs.Division.{divided}
use Rattle.integer.proofs.laws.division_laws_stand.Goals as goal

pub returns : goal.returns
returns c = record { lawful = divided }
