-- The items that a reader has given so far, with those still to come, are all the items of the list.
use Rattle.std.proofs.Common.{◌≡◌, ℕ, List, [], ◌∷◌, ◌++◌, length, Some, sym, ap, ◌∙◌, append_assoc, append-nil, arith}
use Rattle.runlist.specs.declared.reader.RefusedAt.{RefusedAt}
use Rattle.runlist.specs.Format.{Item}
use Rattle.runlist.specs.Laws.{items_of}
use Rattle.runlist.specs.Lists.{Place, Reading, read_list, write_list}
use Rattle.runlist.specs.Reads.{nothing, refusal, placed, Step, Commands}
use Rattle.runlist.proofs.Reading.{gave_item, gave_refusal, gave_nothing}
use Rattle.runlist.proofs.RoundTrip.{written-again}

pub record Gathered (all left : Reading) (done : List Item) : Type 0 where
  pub sum : done ++ items_of left.given ≡ items_of all.given
  pub same_end : left.ended ≡ all.ended

pub gathered_more : (all left after : Reading) (done : List Item) (p : Place) → Gathered all left done → Step left (placed p) after
    → Gathered all after (done ++ p.item ∷ [])
gathered_more all left after done p g s =
    let e = gave_item left after p s in
    record {
      sum = append_assoc done (p.item ∷ []) (items_of after.given) ∙ ap (λ (ps : List Place). done ++ items_of ps) (sym e.0) ∙ g.sum;
      same_end = e.1 ∙ g.same_end;
    }

pub gathered_refused : (all left after : Reading) (done : List Item) (r : RefusedAt) → Gathered all left done → Step left (refusal r) after
    → all.ended ≡ Some r
gathered_refused all left after done r g s = sym g.same_end ∙ (gave_refusal left after r s).1

pub gathered_all : (list : List ℕ) (left after : Reading) (done : List Item) → Gathered (read_list list) left done → Step left nothing after
    → Commands list done
gathered_all list left after done g s =
    let e = gave_nothing left after s in
    let unended = sym g.same_end ∙ e.1 in
    let all : done ≡ items_of (read_list list).given = sym (append-nil done) ∙ ap (λ (ps : List Place). done ++ items_of ps) (sym e.0) ∙ g.sum in
    record {
      unended = unended;
      all = all;
      again = ap (write_list (length list)) all ∙ written-again (length list) list unended (omega arith);
    }
