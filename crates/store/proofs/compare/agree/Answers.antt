-- at each exit the answer is that of the comparison row by row, and so it has its meaning
use Rattle.std.proofs.Common.{◌≡◌, false, sym, refl, rules, arith}
use Rattle.std.proofs.lemmas.Iterator.{cases_from_all, YieldsList-from_range}
use Rattle.store.specs.Agree.{agreeing}
use Rattle.store.proofs.Agreeing.{Alike, Unlike, agreeing_lengths, agreeing_by, agree_decides}
use Rattle.store.proofs.compare.agree.Goals as goal

pub returns : goal.returns
returns g c =
    let a = (g.A.Store.model c.args.a.now).table in
    let b = (g.B.Store.model c.args.b.now).table in
    let told = cases_from_all _ _ c.all.result (Alike a b) (Unlike a b) c.all.ensures.ran (YieldsList-from_range 0 c.count-count.result c.count-count.result refl (omega arith)) (λ at q k. search rules) (λ at q k. search rules) in
    let is : c.all.result ≡ agreeing a b = agreeing_by a b c.count-count.result c.all.result (sym c.count-count.ensures.answer) (omega arith) told in
    record { value = is; meaning = agree_decides a b c.all.result c.count-count.ensures.formed.rising c.count.ensures.formed.rising is }

pub returns-then-count : goal.returns-then-count
returns-then-count g c =
    let a = (g.A.Store.model c.args.a.now).table in
    let b = (g.B.Store.model c.args.b.now).table in
    let is : false ≡ agreeing a b = sym (agreeing_lengths a b (λ e. omega arith)) in
    record { value = is; meaning = agree_decides a b false c.count-count.ensures.formed.rising c.count.ensures.formed.rising is }
