-- One more call at the end of a list: one more answer, and one more step of the book.
use Rattle.std.proofs.Common.{◌≡◌, ℕ, List, [], ◌∷◌, ◌++◌, map, None, sym, refl, ap, ◌∙◌, subst, ap₂}
use Rattle.std.proofs.lemmas.List.{map_push}
use Rattle.store.specs.Table.{Model}
use Rattle.law.specs.Book.{Book}
use Rattle.law.specs.Opening.{open_refusal, open_book}
use Rattle.law.specs.Messages.{Rule, Meaning}
use Rattle.law.specs.Calls.{Answered, Reply, reply, step, run, after}
use Rattle.law.specs.Calls as law
use Rattle.law.specs.History.{history, new_told}
use Rattle.law.specs.Law.{Law}
use Rattle.law.proofs.Whole.{law_of_lost_work}
use Rattle.replay.specs.declared.exchange.Call.{Call}
use Rattle.replay.specs.declared.exchange.Exchange.{Exchange}
use Rattle.replay.specs.Exchanges.{asked, told, call_of, calls_of, Stepped}
use Rattle.replay.specs.Replays.{Run, Replaying}

abbrev answered_at : Rule → Book → law.Call → Answered
answered_at says b c = record { call = c; reply = reply says b c }

run_push : (says : Rule) (cs : List law.Call) (c : law.Call) (b : Book) → run says (cs ++ (c ∷ [])) b ≡ run says cs b ++ (answered_at says (after says cs b) c ∷ [])
run_push says [] c b = refl
run_push says (x ∷ cs) c b = ap (λ (l : List Answered). answered_at says b x ∷ l) (run_push says cs c (step says b x))

after_push : (says : Rule) (cs : List law.Call) (c : law.Call) (b : Book) → after says (cs ++ (c ∷ [])) b ≡ step says (after says cs b) c
after_push says [] c b = refl
after_push says (x ∷ cs) c b = after_push says cs c (step says b x)

pub run_none : (says : Rule) (b : Book) → Run says b [] [] b
run_none says b = record { calls = refl; answers = refl; left = refl }

pub run_more : (says : Rule) (b was now : Book) (these : List Call) (es : List Exchange) (c : Call) (e : Exchange) → Run says b these es was → Stepped says was now c e → Run says b (these ++ (c ∷ [])) (es ++ (e ∷ [])) now
run_more says b was now these es c e r s =
    let calls_are : calls_of (es ++ (e ∷ [])) ≡ calls_of es ++ (call_of e ∷ []) = map_push call_of es e in
    let at-was : told e ≡ answered_at says was (call_of e) = ap (λ (x : Reply (call_of e)). with_reply x) s.answer in
    let at-run : answered_at says was (call_of e) ≡ answered_at says (after says (calls_of es) b) (call_of e) = ap (λ (x : Book). answered_at says x (call_of e)) r.left in
    record {
      calls = map_push asked es e ∙ ap₂ (λ (xs : List Call) (x : Call). xs ++ (x ∷ [])) r.calls s.call;
      answers = map_push told es e ∙ ap₂ (λ (xs : List Answered) (x : Answered). xs ++ (x ∷ [])) r.answers (at-was ∙ at-run)
          ∙ sym (run_push says (calls_of es) (call_of e) b) ∙ ap (λ (cs : List law.Call). run says cs b) (sym calls_are);
      left = s.after ∙ ap (λ (x : Book). step says x (call_of e)) r.left ∙ sym (after_push says (calls_of es) (call_of e) b) ∙ ap (λ (cs : List law.Call). after says cs b) (sym calls_are);
    }
  where
    with_reply : Reply (call_of e) → Answered
    with_reply x = record { call = call_of e; reply = x }

-- the law of lost work, about a run that code made
pub replaying : (says : Rule) (name n nodes : ℕ) (store : Model) (these : List Call) (es : List Exchange) (now : Book) → Meaning says → open_refusal n nodes store ≡ None → Run says (open_book name n nodes store) these es now → Replaying says name n nodes store these es now
replaying says name n nodes store these es now means opens r =
    let b = open_book name n nodes store in
    let whole = law_of_lost_work name n nodes store says opens means (calls_of es) in
    record {
      opened = opens;
      ran = r;
      law = subst (λ (x : Book). Law n nodes says (history nodes (map told es) (new_told nodes)) x) (sym r.left)
          (subst (λ (xs : List Answered). Law n nodes says (history nodes xs (new_told nodes)) (after says (calls_of es) b)) (sym r.answers) whole);
    }
