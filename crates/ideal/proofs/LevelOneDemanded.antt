-- The demands, of the level-one box. Assumes nothing.
use Rattle.ideal.specs.LevelOne.{level_one_on}
use Rattle.ideal.specs.LevelOneDemands.{LevelOneDemands}
use Rattle.ideal.proofs.LevelOneCalls.{else_full, level_one_stays_sound, alters_nothing, none_five, only_one_numbered, exactly_missing, answers_accepted, calls_accepted, alters_released, first_free_handle, long_check_no}
use Rattle.ideal.proofs.LevelOneNumbers.{each_number}
use Rattle.ideal.proofs.LevelOneThree.{three_numbers}
use Rattle.ideal.proofs.LevelOneSecret.{level_one_secrecy, level_one_exempt}
use Rattle.ideal.proofs.LevelOneHistory.{holds, reports, once, checks, escrow_is_barred, retrieve_hands_out}
use Rattle.ideal.proofs.LevelOneAttests.{attest_yields, one_value_each}
use Rattle.ideal.proofs.LevelOneLow.{low}

pub level_one_demands : LevelOneDemands level_one_on
level_one_demands =
    record {
      else_full = else_full;
      three_numbers = three_numbers;
      stays_sound = level_one_stays_sound;
      one =
          record {
            numbers = each_number;
            alters_nothing = alters_nothing;
            never_five = none_five;
            number_only_with_one = only_one_numbered;
            missing_is_exact = exactly_missing;
          };
      two =
          record {
            call =
                record {
                  refuses_no_more = each_number;
                  does = calls_accepted;
                  answers = answers_accepted;
                  handles_free = first_free_handle;
                  long_checks = long_check_no;
                  release_alters = alters_released;
                };
            checks = checks;
            handles_once = once;
            holds = holds;
            reports = reports;
            barred = escrow_is_barred;
            retrieves = retrieve_hands_out;
            attests = attest_yields;
            one_value_each = one_value_each;
            low = low;
          };
      three = level_one_secrecy;
      secrecy = level_one_exempt;
    }
