-- the longest text, which the search leaves: it is the words of its case
use Rattle.std.proofs.Common.{sym, ap}
use Rattle.refusal.specs.Refusals.{store_words}
use Rattle.refusal.proofs.StoreRefusal.words.Goals as goal

pub returns-in-WordCount : goal.returns-in-WordCount
returns-in-WordCount c = sym (ap store_words c.in-WordCount.is)
