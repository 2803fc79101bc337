-- The rows behind the one that is put, lowered as a part of the whole. Assumes nothing.
use Prim.Native.Nat.{ℕ, ◌-◌, ◌≤◌}
use mathlib.Core.Path.{◌≡◌}
use mathlib.Core.List.{List, ◌++◌, map, append-nil}
use native.Mathlib.Omega.{arith}
use lib.ListN.{length, take, drop, length-drop, drop_of_length-le}
use Rattle.std.proofs.lemmas.List.{take_all}
use borrow.Rule.Slice.PartMut.{put_mid}
use Rattle.ideal.specs.Tables.{RowsOf}
use Rattle.state.specs.Edits.{lowered, lowered_from}

-- the part from a on, once its first i rows, all that it has, are lowered
pub lower_rest : {Row Key : Type 0} (t : RowsOf Row Key) (a n i : ℕ) (rows part : List Row)
    → let rest = take (length rows - a) (drop a rows) in
    length rest ≤ i → part ≡ map (lowered t n) (take i rest) ++ drop i rest
    → put_mid a (length rows - a) rows part ≡ lowered_from t a n rows
unfolding lowered_from
lower_rest t a n i rows part h e =
    let most : length (drop a rows) ≤ length rows - a = simp length-drop (omega arith) in
    let rest = take (length rows - a) (drop a rows) in
    rw (e, take_all i rest h, drop_of_length-le rest h, take_all (length rows - a) (drop a rows) most, drop_of_length-le (drop a rows) most) (simp append-nil)
