-- the message at the place goes between clusters that exist, and so its receiver can be changed
use Rattle.std.proofs.Common.{◌≡◌, ℕ, map, vec_items, vec_len, ap, ◌∙◌, ap₂, arith}
use Rattle.law.specs.declared.Message.{Message}
use Rattle.law.specs.Book.{Book as Shown, Cluster as Group, with_log, with_cluster, entry, number, at}
use Rattle.law.specs.Messages.{receive as received, deliver}
use Rattle.book.specs.Rules.{is_between}
use Rattle.book.specs.Logs.{message_at, heard_from}
use Rattle.book.specs.View.{view}
use Rattle.book.proofs.Groups.{group_at}
use Rattle.book.proofs.Delivering.{message_read, between-read, two_of}
use Rattle.book.proofs.book.Book.deliver.Goals as goal

pub index-requires-2 : goal.index-requires-2
index-requires-2 c =
    let to = (two_of c.args.self.now c.args.place c.index.result.now c.requires c.index.ensures).to in
    omega arith

pub offset_bounds-index-to : goal.offset_bounds-index-to
offset_bounds-index-to c =
    let to = (two_of c.args.self.now c.args.place c.index.result.now c.requires c.index.ensures).to in
    let few = c.args.self.now.few in
    omega arith

pub bounds-index-to : goal.bounds-index-to
bounds-index-to c =
    let to = (two_of c.args.self.now c.args.place c.index.result.now c.requires c.index.ensures).to in
    let few = c.args.self.now.few in
    omega arith

pub hear-requires : goal.hear-requires
hear-requires c =
    ap₂ (λ (i j : ℕ). is_between (vec_len c.args.self.now.clusters) i j) c.from.ensures c.from-to.ensures ∙ between-read c.args.self.now c.args.place c.index.result.now c.requires c.index.ensures

-- the receiver changed, then the log: the protocol's delivery
together : (B H : Shown) (M : Message) (to from n receipt : ℕ) → to ≡ M.to → from ≡ M.from → n ≡ M.number → receipt ≡ number B M.to → H ≡ with_cluster B to (heard_from from n (at B to)) → with_log H (map (received M.id receipt) B.log) ≡ deliver B M
together B H M to from n receipt e f g r h =
    let made : H ≡ with_cluster B M.to (heard_from M.from M.number (at B M.to)) =
    h ∙ ap (λ (t : ℕ). with_cluster B t (heard_from from n (at B t))) e ∙ ap₂ (λ (s k : ℕ). with_cluster B M.to (heard_from s k (at B M.to))) f g in
    ap₂ (λ (x : Shown) (k : ℕ). with_log x (map (received M.id k) B.log)) made r

pub returns : goal.returns
returns c =
    let b = c.args.self.now in
    let place = c.args.place in
    let len = b.clusters.ok.0 in
    let it = c.index.result.now in
    let M = message_at (vec_items b.log) place in
    let is : it.message ≡ M = message_read b place it c.requires c.index.ensures in
    let to = c.from-to.result in
    let to_is : to ≡ M.to = c.from-to.ensures ∙ ap (λ (x : Message). x.to) is in
    let near = (two_of b place it c.requires c.index.ensures).to in
    let at-to : c.from-to.result ≡ it.message.to = c.from-to.ensures in
    let receiver = group_at (vec_items b.clusters) to c.index-2.result.now (omega arith) c.index-2.ensures in
    λ m. c.receive.ensures m
    ∙ ap (λ l. with_log (view c.hear.new.self m) (map (received (message_at (vec_items l) place).id (entry c.index-2.result.now.row to)) (vec_items l))) c.hear.ensures.log
    ∙ together (view b m) (view c.hear.new.self m) M to c.from.result it.message.number (entry c.index-2.result.now.row to)
    to_is (c.from.ensures ∙ ap (λ (x : Message). x.from) is) (ap (λ (x : Message). x.number) is)
    (ap (λ (g : Group). entry g.row to) receiver ∙ ap (λ (t : ℕ). number (view b m) t) to_is)
    (c.hear.ensures.after m)
