-- the words of the round go to the store under the next number, and then the book commits
use Rattle.std.proofs.Common.{◌≡◌, ℕ, suc, ◌-◌, List, take, None, Ok, Result, sym, ap, ◌∙◌, ap₂, arith, rules}
use Rattle.std.proofs.lemmas.List.{take-map}
use Rattle.refusal.specs.declared.StoreRefusal.{StoreRefusal}
use Rattle.store.specs.Table.{Model, keep_refusal, keep_model}
use Rattle.law.specs.Book.{at, number, or_zero, with_cluster}
use Rattle.law.specs.Rounds.{saved, deliver_waiting, from_store, committed}
use Rattle.book.specs.View.{view}
use Rattle.federation.specs.Shown.{shown}
use Rattle.federation.specs.Answerable.{given, keeping}
use Rattle.federation.proofs.Allowed.{done}
use Rattle.federation.proofs.Answering.{kept_none, words_are}
use Rattle.federation.proofs.federation.Federation.commit.Goals as goal

pub returns-clause-after : goal.returns-clause-after
returns-clause-after g c =
    let f = c.args.self.now in
    let b = shown g.S.Store.model f in
    let i = c.args.cluster in
    let r = c.args.round in
    let n-is : c.next_number-number.result ≡ suc (number b i) = c.next_number-number.ensures in
    let nodes_is : c.from-nodes.result - 0 ≡ b.nodes = let e = c.from-nodes.ensures in let k = c.nodes.ensures.value in omega arith in
    let words_is = words_are c.words_of-words.result r.answers (search rules) c.words_of-words.ensures in
    let ws-is : take (c.from-nodes.result - 0) c.words_of-words.result ≡ given b r =
    ap₂ (λ (k : ℕ) (ws : List ℕ). take k ws) nodes_is words_is ∙ take-map or_zero b.nodes r.answers in
    let kept : ◌≡◌ {A = Result (Unit {0}) StoreRefusal} (Ok tt) c.keep.result = search rules in
    let none : keeping b i r ≡ None =
    ap₂ (λ (k : ℕ) (ws : List ℕ). from_store (keep_refusal b.store i k ws)) (sym n-is) (sym ws-is) ∙ kept_none _ (kept ∙ c.keep.ensures.answer) in
    let model_is : g.S.Store.model c.keep.new.self ≡ keep_model b.store i (suc (number b i)) (given b r) =
    c.keep.ensures.after ∙ ap₂ (λ (k : ℕ) (ws : List ℕ). keep_model b.store i k ws) n-is ws-is in
    c.commit.ensures (g.S.Store.model c.keep.new.self)
    ∙ ap (λ (m : Model). deliver_waiting (with_cluster (view f.book m) i (saved i (at (view f.book m) i))) r.waiting) model_is
    ∙ done (keeping b i r) b (committed b i (given b r) r.waiting) none
