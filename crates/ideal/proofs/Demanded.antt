-- The three demands, of the definition that the code is equated with. FirstFree.antt and what follows it come last, so that a
-- definition with a heap byte in the handle is refused in Secret.antt first (tests/edits/run). Assumes nothing.
use Rattle.ideal.specs.Box.{call_on}
use Rattle.ideal.specs.Demands.{Demands}
use Rattle.ideal.proofs.Numbers.{each_number, refusals_alter_nothing, never_five}
use Rattle.ideal.proofs.MissingBytes.{number_only_with_one, missing_is_exact}
use Rattle.ideal.proofs.Accepts.{accepted_answers}
use Rattle.ideal.proofs.Histories.{history_holds, reports}
use Rattle.ideal.proofs.Accurate.{check_is_accurate, long_check_is_no, retrieve_is_accurate, release_is_accurate, chain_is_accurate, handle_once}
use Rattle.ideal.proofs.Secret.{secrecy}
use Rattle.ideal.proofs.FirstFree.{handle_is_first_free}
use Rattle.ideal.proofs.OneCalls.{accepted_calls}
use Rattle.ideal.proofs.Released.{release_alters}

pub demands : Demands call_on
demands =
    record {
      one =
          record {
            numbers = each_number;
            alters_nothing = refusals_alter_nothing;
            never_five = never_five;
            number_only_with_one = number_only_with_one;
            missing_is_exact = missing_is_exact;
          };
      two =
          record {
            call =
                record {
                  refuses_no_more = each_number;
                  does = accepted_calls;
                  answers = accepted_answers;
                  handles_free = handle_is_first_free;
                  long_checks = long_check_is_no;
                  release_alters = release_alters;
                };
            history =
                record {
                  checks = check_is_accurate;
                  retrieves = retrieve_is_accurate;
                  releases = release_is_accurate;
                  chains = chain_is_accurate;
                  handles_once = handle_once;
                  holds = history_holds;
                  reports = reports;
                };
          };
      three = secrecy;
    }
