-- One turn after another: what turns write, and what the loop over the records keeps.
use Prim.Native.Nat.{ℕ, zero, suc, ◌+◌, ◌-◌, ◌≤◌, ◌<◌}
use mathlib.Core.Path.{◌≡◌, refl, sym, ap, subst, ◌∙◌}
use mathlib.Core.List.{List, [], ◌∷◌, ◌++◌, map, append_assoc, append-nil}
use native.Mathlib.Nat.{sub-zero}
use native.Mathlib.Omega.{arith}
use lib.ListN.{length, take, drop, length-append, length-drop, drop_of_length-le}
use lib.Dec.{ltb}
use lib.Seq.{take-length, drop-length, drop-drop, take_at, drop_at}
use borrow.Author.Tests.{lt-ltb, le-ltb, ltb-true, ltb-false}
use Rattle.ideal.specs.declared.Profile.{Profile}
use Rattle.ideal.specs.Tables.{Tables, flat}
use Rattle.ideal.specs.Box.{Element, given, Result, element_at, tables_from, answers_from}
use Rattle.ideal.specs.LevelOne.{box_of}
use Rattle.ideal.specs.Layouts.{Sound}
use Rattle.lists.proofs.Bools.{by_cases}
use Rattle.sheet.specs.Records.{left_after, records_from, records_of}
use Rattle.sheet.specs.Sheet.{bytes_of, spaced, shown_text, line, lines_of}
use Rattle.sheet.specs.Stored.{AtFront}
use Rattle.sheet.proofs.Scripts.{left_less, record_by_record, stays_sound_in}
use Rattle.turns.specs.Next.{Turn, line_most, fitting, turn, turns_over, turns, Writes, TurnsWrite, TurnsGoOn, TurnMade}

-- ---- turns, of any box

abbrev no_turn : Tables → List ℕ → Turn
no_turn t rest = record { tables = t; text = []; left = rest }

-- turns behind a text
abbrev behind_text : List ℕ → Turn → Turn
behind_text text later = record { tables = later.tables; text = text ++ later.text; left = later.left }

module _ (box : Tables → Element → Result) where
  nothing_left : (room : ℕ) (t : Tables) → turns box room t [] ≡ no_turn t []
  unfolding records_from turns_over answers_from fitting tables_from element_at flat
  nothing_left room t = refl

  -- where the next line might not fit there is no turn
  no_room : (room : ℕ) (t : Tables) (rest : List ℕ) → room < line_most → turns box room t rest ≡ no_turn t rest
  unfolding records_from turns_over answers_from fitting tables_from element_at flat
  no_room room t [] h = refl
  no_room room t (b ∷ bs) h = rw (lt-ltb room line_most h)

  first_call : (room : ℕ) (t : Tables) (e : Element) (es : List Element) → line_most ≤ room
      → let r = box t e in
      let text = line r.answer in
      turns_over box room t (e ∷ es) ≡ behind_text text (turns_over box (room - length text) r.tables es)
  unfolding turns_over answers_from fitting tables_from element_at flat
  first_call room t e es h = rw (le-ltb room line_most h)

  -- one turn, and those after it
  first_turn : (room : ℕ) (t : Tables) (rest : List ℕ) → 0 < length rest → line_most ≤ room
      → let a = turn box t rest in
      turns box room t rest ≡ behind_text a.text (turns box (room - length a.text) a.tables a.left)
  unfolding turn
  first_turn room t [] l h = absurd (omega arith)
  first_turn room t (b ∷ bs) l h =
      ap (turns_over box room t) (record_by_record 1024 b bs)
      ∙ first_call room t (given (b ∷ bs) 1024) (records_of 1024 (left_after (b ∷ bs))) h

  first_lines : (t : Tables) (b : ℕ) (bs : List ℕ)
      → let a = turn box t (b ∷ bs) in
      lines_of box t (b ∷ bs) ≡ a.text ++ lines_of box a.tables a.left
  unfolding lines_of turn answers_from flat
  first_lines t b bs = ap (λ es. flat (map line (answers_from box t es))) (record_by_record 1024 b bs)

-- ---- what turns write

module _ (p : Profile) where
  none_written : (t : Tables) (rest : List ℕ) → Sound t 1024 → Writes (box_of p) (no_turn t rest) t rest
  none_written t rest s = record { lines = refl; sound = s; within = omega arith }

  abbrev one : Tables → List ℕ → Turn
  one = turn (box_of p)

  one_sound : (t : Tables) (rest : List ℕ) → Sound t 1024 → Sound (one t rest).tables 1024
  unfolding turn
  one_sound t rest s = stays_sound_in p t (given rest 1024) s

  one_less : (t : Tables) (rest : List ℕ) → 0 < length rest → length (one t rest).left < length rest
  unfolding turn
  one_less t [] h = absurd (omega arith)
  one_less t (b ∷ bs) h = omega (arith, left_less b bs)

  more_written : (t : Tables) (b : ℕ) (bs : List ℕ) (later : Turn) → let a = one t (b ∷ bs) in
      Writes (box_of p) later a.tables a.left → Writes (box_of p) (behind_text a.text later) t (b ∷ bs)
  more_written t b bs later w =
      let a = one t (b ∷ bs) in
      record {
        lines =
            rw (append_assoc a.text later.text)
            (first_lines (box_of p) t b bs ∙ ap (λ (ls : List ℕ). a.text ++ ls) w.lines);
        sound = w.sound;
        within = omega (arith, w.within, one_less t (b ∷ bs) (omega arith));
      }

  from_writes : (n room : ℕ) (t : Tables) (rest : List ℕ) → length rest ≤ n → Sound t 1024
      → Writes (box_of p) (turns (box_of p) room t rest) t rest
  from_writes zero room t [] l s = rw (nothing_left (box_of p) room t) (none_written t [] s)
  from_writes zero room t (b ∷ bs) l s = absurd (omega arith)
  from_writes (suc n) room t [] l s = rw (nothing_left (box_of p) room t) (none_written t [] s)
  from_writes (suc n) room t (b ∷ bs) l s =
      by_cases (ltb room line_most)
      (λ e. rw (no_room (box_of p) room t (b ∷ bs) (ltb-true room line_most e)) (none_written t (b ∷ bs) s))
      (λ e.
      let a = one t (b ∷ bs) in
      rw (first_turn (box_of p) room t (b ∷ bs) (omega arith) (ltb-false room line_most e))
      (more_written t b bs _ (from_writes n (room - length a.text) a.tables a.left (omega (arith, one_less t (b ∷ bs) (omega arith))) (one_sound t (b ∷ bs) s))))

pub turns_write : TurnsWrite
turns_write p room t rest s = from_writes p (length rest) room t rest (omega arith) s

after_some : (s t : List ℕ) → 0 < length t → 0 < length (s ++ t)
after_some s t h = omega (arith, length-append s t)

one_some : (p : Profile) (t : Tables) (rest : List ℕ) → 0 < length (one p t rest).text
unfolding turn line bytes_of
one_some p t rest =
    let a = (box_of p t (given rest 1024)).answer in
    after_some (spaced a.code ++ spaced a.number ++ spaced a.used ++ shown_text a.shown) (bytes_of "\n") (omega arith)

pub turns_go_on : TurnsGoOn
turns_go_on p room t rest s left h =
    let a = one p t rest in
    let later = turns (box_of p) (room - length a.text) a.tables a.left in
    let w = turns_write p (room - length a.text) a.tables a.left (one_sound p t rest s) in
    rw (first_turn (box_of p) room t rest left h)
    (record {
      some = omega (arith, length-append a.text later.text, one_some p t rest);
      less = omega (arith, w.within, one_less p t rest left);
    })

-- ---- the loop over the records

pub to_the_end : (l : List ℕ) (at : ℕ) → take (length l - at) (drop at l) ≡ drop at l
to_the_end l at = rw (← length-drop at l) (take-length (drop at l))

pub part_length : (l : List ℕ) (at : ℕ) → length (take (length l - at) (drop at l)) ≡ length l - at
part_length l at = ap length (to_the_end l at) ∙ length-drop at l

-- ---- the buffer of their lines

pub front_length : {text before after : List ℕ} {size : ℕ} → AtFront text before after size → length after ≡ length before
front_length {text} {before} {size = size} f =
    omega (arith, f.count, f.fits, ap length f.bytes, length-append text (drop size before), length-drop size before)

pub front_text : {text before after : List ℕ} {size : ℕ} → AtFront text before after size → take size after ≡ text
front_text {text} {before} {size = size} f = rw f.bytes (take_at text (drop size before) size (sym f.count))

-- a line that is written behind others
module _ {lines before out text after : List ℕ} {size n : ℕ} (f : AtFront lines before out size)
    (line : AtFront text (take (length out - size) (drop size out)) after n) where
  abbrev next_out : List ℕ
  next_out = take size out ++ (after ++ drop (length out - size) (drop size out))

  unaltered : drop size out ≡ drop size before
  unaltered = rw f.bytes (drop_at lines (drop size before) size (sym f.count))

  nothing_beyond : drop (length out - size) (drop size out) ≡ []
  nothing_beyond = rw (← length-drop size out) (drop-length (drop size out))

  behind : AtFront (lines ++ text) before next_out (size + n)
  behind =
      record {
        count = omega (arith, f.count, line.count, length-append lines text);
        fits = omega (arith, line.fits, part_length out size, front_length f, f.fits);
        bytes =
            rw (front_text f, nothing_beyond, append-nil after, line.bytes, to_the_end out size, unaltered, drop-drop n size before, append_assoc lines text)
            refl;
      }

  pub longer : AtFront (take (size + n) next_out) before next_out (size + n)
  longer = rw (front_text behind) behind

-- ---- both

-- after some turns, with their lines at the front of the buffer: behind them, the turns that are left are those of the definition
pub record Going (p : Profile) (out₀ : List ℕ) (t₀ : Tables) (rest : List ℕ) (t : Tables) (done : ℕ) (out : List ℕ) (size : ℕ) : Type 0 where
  pub sound : Sound t 1024
  pub within : done ≤ length rest
  pub front : AtFront (take size out) out₀ out size
  pub same : behind_text (take size out) (turns (box_of p) (length out - size) t (drop done rest)) ≡ turns (box_of p) (length out₀) t₀ rest

pub starts : {p : Profile} {out : List ℕ} {t : Tables} {rest : List ℕ} → Sound t 1024 → Going p out t rest t 0 out 0
starts {out = out} s =
    record { sound = s; within = omega arith; front = record { count = refl; fits = omega arith; bytes = refl }; same = rw (sub-zero (length out)) refl }

module _ {p : Profile} {out₀ : List ℕ} {t₀ : Tables} {rest : List ℕ} {t : Tables} {done : ℕ} {out : List ℕ} {size : ℕ}
    (g : Going p out₀ t₀ rest t done out size) where
  -- where no turn is left
  ended : turns (box_of p) (length out - size) t (drop done rest) ≡ no_turn t (drop done rest)
      → TurnMade (turns (box_of p) (length out₀) t₀ rest) t rest done out₀ out size
  ended e =
      let all : record { tables = t; text = take size out; left = drop done rest } ≡ turns (box_of p) (length out₀) t₀ rest =
      (λ i. record { tables = t; text = sym (append-nil (take size out)) i; left = drop done rest })
      ∙ ap (behind_text (take size out)) (sym e) ∙ g.same in
      record {
        same = ap (λ (a : Turn). a.tables) all;
        rest_left = ap (λ (a : Turn). a.left) all;
        within = g.within;
        front = subst (λ (a : Turn). AtFront a.text out₀ out size) all g.front;
      }

  pub at_end : length rest ≤ done → TurnMade (turns (box_of p) (length out₀) t₀ rest) t rest done out₀ out size
  at_end h =
      ended
      (rw (drop_of_length-le rest h) (nothing_left (box_of p) (length out - size) t))

  pub at_room : length out - size < line_most → TurnMade (turns (box_of p) (length out₀) t₀ rest) t rest done out₀ out size
  at_room h = ended (no_room (box_of p) (length out - size) t (drop done rest) h)

  -- a turn that the code made on `&rest[done..]` and `&mut out[size..]`
  module _ (left : done < length rest) (room : line_most ≤ length out - size) {made : Tables} {after : List ℕ} {used n : ℕ}
      (turned : TurnMade (turn (box_of p) t (take (length rest - done) (drop done rest))) made (take (length rest - done) (drop done rest)) used
      (take (length out - size) (drop size out)) after n) where
    abbrev here : Turn
    here = turn (box_of p) t (drop done rest)

    made_here : TurnMade here made (drop done rest) used (take (length out - size) (drop size out)) after n
    made_here = rw (to_the_end rest done) at turned

    pub further : done + used ≤ length rest
    further = omega (arith, length-drop done rest, made_here.within)

    pub more_fits : size + n ≤ length out
    more_fits = omega (arith, (longer g.front turned.front).fits, front_length g.front)

    some_left : 0 < length (drop done rest)
    some_left = omega (arith, length-drop done rest)

    pub some_done : 0 < used
    some_done = omega (arith, ap length made_here.rest_left, length-drop used (drop done rest), one_less p t (drop done rest) some_left)

    pub goes_on : Going p out₀ t₀ rest made (done + used) (next_out g.front turned.front) (size + n)
    goes_on =
        let text = here.text in
        let f = longer g.front turned.front in
        let later = turns (box_of p) (length out - size - length text) here.tables here.left in
        let texts : take (size + n) (next_out g.front turned.front) ≡ take size out ++ text =
        front_text (behind g.front made_here.front) in
        let rooms : length (next_out g.front turned.front) - (size + n) ≡ length out - size - length text =
        omega (arith, front_length f, front_length g.front, made_here.front.count) in
        record {
          sound = rw made_here.same (one_sound p t (drop done rest) g.sound);
          within = further;
          front = f;
          same =
              rw (texts, rooms, made_here.same, ← drop-drop used done rest, made_here.rest_left)
              ((λ i. record { tables = later.tables; text = append_assoc (take size out) text later.text i; left = later.left })
              ∙ ap (behind_text (take size out)) (sym (first_turn (box_of p) (length out - size) t (drop done rest) some_left room))
              ∙ g.same);
        }
