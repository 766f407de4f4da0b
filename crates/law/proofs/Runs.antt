-- The worked runs hold by computation: the definitions, made on these calls, come to these answers.
use Rattle.std.proofs.Common.{refl}
use Rattle.law.specs.WorkedRuns.{WorkedRuns}

pub worked_runs : WorkedRuns
worked_runs =
    record {
      forced_then_undone = refl;
      two_open = refl;
      eight_open = refl;
      one_refused = refl;
      nine_refused = refl;
      second_forces_on_news = refl;
      second_forces_always = refl;
      receiver_fails = refl;
      overtaken = refl;
      sixteen_kept = refl;
      log_full = refl;
      store_full = refl;
      chain_of_three = refl;
      alerts_one_by_one = refl;
      taken_over = refl;
    }
