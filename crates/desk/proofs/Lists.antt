-- Lists of tanks and of their answers. Assumes nothing.
use Prim.Native.Nat.{ℕ, ◌+◌, ◌<◌}
use native.Mathlib.Omega.{arith}
use mathlib.Core.Path.{◌≡◌, refl, ap}
use mathlib.Core.Bool.{false}
use mathlib.Core.List.{List, ◌++◌, map}
use lib.ListN.{length, take, drop, get_or, set, length-map, length-take}
use Rattle.std.proofs.lemmas.List.{append_assoc, drop_more, set_at, map_more}
use Rattle.std.proofs.lemmas.Bool.Decides.{nat_tests}
use lib.Dec.{eqb}
use Rattle.ideal.specs.Tables.{Tables}
use Rattle.ideal.specs.Box.{call_on}
use Rattle.desk.specs.declared.Tank.{Tank}
use Rattle.desk.specs.declared.TankAnswer.{TankAnswer}
use Rattle.desk.specs.declared.list.ListRefusal.{ListRefusal}
use Rattle.desk.specs.declared.list.ListRefusal.TheVariants.{AnswerCount, TankCount}
use Rattle.desk.specs.Desk.{shift_code, shift_on}
use Rattle.desk.specs.Results.{list_result, list_leaves, shift_result, shift_leaves, refusal_number, Left}

-- ---- a loop over tanks that writes an answer a turn

pub turned : {A B : Type 0} (f : A → B) (ks : List A) (rows acc : List B) (i : ℕ) (r : B) (d : A)
    → i < length ks → length rows ≡ length ks → acc ≡ map f (take i ks) ++ drop i rows → r ≡ f (get_or ks i d)
    → set acc i r ≡ map f (take (i + 1) ks) ++ drop (i + 1) rows
turned f ks rows acc i r d less as_many e er =
    let m : length (map f (take i ks)) ≡ i = simp (length-map, length-take) (omega arith) in
    let l : i < length rows = omega arith in
    rw (e, er, drop_more rows i r, set_at, map_more f ks i d, append_assoc)

-- ---- a list of 1 to 8

-- is answered with as many answers
pub as_many : (n m : ℕ) → shift_code n m ≡ 0 → m ≡ n
unfolding shift_code
as_many n m z = grind (arith, nat_tests)

-- and is refused with 15 with another count alone
pub not_as_many : (n m : ℕ) → shift_code n m ≡ 15 → m ≡ n → ⊥
unfolding shift_code
not_as_many n m z e = grind (arith, nat_tests)

pub shift_right : (tanks : List Tank) (answers answers' : List TankAnswer) (t' t : Tables) (output' output : List ℕ)
    → shift_code (length tanks) (length answers) ≡ 0 → list_result answers' t' output' ≡ list_leaves call_on t output tanks
    → shift_result 0 answers' t' output' ≡ shift_leaves call_on t output tanks answers
unfolding shift_on
shift_right tanks answers answers' t' t output' output whole right =
    rw whole (ap (λ (x : Left (List TankAnswer)). shift_result 0 x.answer x.tables x.output) right)

-- a refusal's number is not 0
refuses : (r : ListRefusal) → eqb (refusal_number r) 0 ≡ false
refuses AnswerCount = refl
refuses TankCount = refl

pub shift_refused : (r : ListRefusal) (code : ℕ) (tanks : List Tank) (answers : List TankAnswer) (t : Tables) (output : List ℕ)
    → code ≡ refusal_number r → refusal_number r ≡ shift_code (length tanks) (length answers)
    → shift_result code answers t output ≡ shift_leaves call_on t output tanks answers
unfolding shift_on
shift_refused r code tanks answers t output c e = rw (← e, refuses r, c)
