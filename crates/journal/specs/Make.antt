-- What a refusal to make a journal says to a person.
use Rattle.std.specs.Prelude.{ℕ, List, codes}
use Rattle.journal.specs.declared.make.MakeRefusal.{MakeRefusal}
use Rattle.journal.specs.declared.make.MakeRefusal.TheVariants.{Size, Memory}

abbrev pub make_words : MakeRefusal → List ℕ
make_words Size = codes "a journal takes 16832 bytes"
make_words Memory = codes "no memory"
