-- regular: a law: the world that any accepted list of events leads to is regular, and its records are true.
use Rattle.sc_world.proofs.EveryHistory.{every_lawful, lawful_regular, lawful_ends, lawful_told}
use Rattle.sc_world.proofs.laws.regular.Goals as goal

pub returns : goal.returns
returns c = record {
  regular = λ c ids es w h. lawful_regular w (every_lawful c ids es w h);
  records = λ c ids es w h. (every_lawful c ids es w h).records;
  answers = λ c ids es w h. lawful_ends w (every_lawful c ids es w h);
  told = λ c ids es w h. lawful_told w (every_lawful c ids es w h);
  senders = λ c ids es w h. (every_lawful c ids es w h).sent;
}
