-- What the demands say of a box, said of its entry; and the output buffer byte by byte. Assumes nothing.
use Prim.Native.Nat.{◌+◌, ◌-◌}
use mathlib.Core.Path.{◌≡◌, sym, ap, ◌∙◌}
use mathlib.Core.List.{◌++◌}
use native.Mathlib.Omega.{arith}
use lib.ListN.{length, get_or, drop, length-append, length-drop, get_or-append}
use lib.Seq.{get_or-append-add, get_or-drop}
use Rattle.ideal.specs.Tables.{Tables}
use Rattle.ideal.specs.Box.{Element, Result, given, output_after, call_on}
use Rattle.ideal.specs.Refusals.{RefusalsAlterNothing}
use Rattle.ideal.specs.LevelOne.{level_one_on}
use Rattle.ideal.specs.LevelOneDemands.{ElseFull}
use Rattle.ideal.proofs.Demanded.{demands}
use Rattle.ideal.proofs.LevelOneDemanded.{level_one_demands}
use Rattle.calls.specs.Entry.{result_on, entry_on, EntryRefuses, EntryElseFull, EntryShows}

refuses_of : (box : Tables → Element → Result) → RefusalsAlterNothing box → EntryRefuses box
unfolding entry_on result_on output_after
refuses_of box h t bytes output f =
    let r = h t (given bytes _) f in record { tables = r.tables; output = rw r.shown }

else_full_of : (box : Tables → Element → Result) → ElseFull box → EntryElseFull box
unfolding entry_on result_on
else_full_of box h t bytes output f =
    let r = h t (given bytes _) f in
    λ i. result_on (record { tables = r.tables i; answer = r.answer i }) output

pub entry_refuses : EntryRefuses call_on
entry_refuses = refuses_of call_on demands.one.alters_nothing

pub level_one_refuses : EntryRefuses level_one_on
level_one_refuses = refuses_of level_one_on level_one_demands.one.alters_nothing

pub level_one_else_full : EntryElseFull level_one_on
level_one_else_full = else_full_of level_one_on level_one_demands.else_full

pub entry_shows : EntryShows
unfolding entry_on result_on output_after
entry_shows box t bytes output fits =
    let shown = (box t (given bytes (length output))).answer.shown in
    let n = length shown in
    record {
      size = simp (length-append, length-drop) (omega arith);
      front = λ i l. get_or-append shown (drop n output) 0 i l;
      behind = λ i l.
          let q : i ≡ n + (i - n) = omega arith in
          ap (λ j. get_or (shown ++ drop n output) j 0) q ∙ get_or-append-add shown (drop n output) (i - n) 0
          ∙ get_or-drop n output (i - n) 0 ∙ ap (λ j. get_or output j 0) (sym q);
    }
