use Rattle.std.proofs.Common.{◌≡◌, reverse, ap, ◌∙◌, rules, tests}
use Rattle.std.specs.List.{find}
use Rattle.std.specs.Option.{option_map}
use Rattle.std.proofs.lemmas.Iterator.Adapters.{YieldsList-from_rev_slice}
use Rattle.std.proofs.lemmas.Iterator.Search.{find_from_yields_List}
use Rattle.book.specs.Rules.{number_of}
use Rattle.recovery.proofs.Firsts.{before, latest_found}
use Rattle.recovery.proofs.alerts.latest.Goals as goal

pub returns : goal.returns
returns c =
    let found : option_map (λ x. x.now) c.find.result ≡ find (before c.args.from c.args.back c.args.place) (reverse c.args.kept.now) =
    find_from_yields_List (before c.args.from c.args.back c.args.place) _ _ c.find.result c.find.ensures.ran (YieldsList-from_rev_slice c.args.kept.now cc) (λ x b q k. search (rules, tests)) in
    let told : c.map.result ≡ option_map number_of (option_map (λ x. x.now) c.find.result) = search rules in
    told ∙ ap (option_map number_of) found ∙ latest_found c.args.from c.args.back c.args.place c.args.kept.now
