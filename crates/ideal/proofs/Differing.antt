-- Demand 3's premises are met by two lists that differ.
use Prim.Native.Nat.{ℕ, zero, suc, ◌+◌, ◌*◌, ◌≤◌, ◌<◌}
use mathlib.Core.Path.{◌≡◌, refl, sym, ap, ◌∙◌, subst, subst₂}
use mathlib.Core.Bool.{Bool, true, false}
use mathlib.Core.List.{List, [], ◌∷◌, ◌++◌, map, append-nil}
use native.Mathlib.Omega.{arith}
use lib.ListN.{length, get_or, take}
use Rattle.record.specs.Call.{Call, heap_write, protect}
use Rattle.record.specs.Layout.{stands, kinds, among, kind_of}
use Rattle.record.specs.Read.{whole, read, from_little, field, contents, bytes_field, fields, read_fields, read_kind, after_map}
use Rattle.record.specs.Write.{write, only, record_of, filled, record_in}
use Rattle.fnv.specs.Fnv.{little}
use Rattle.ideal.specs.State.{State, Move, nothing, takes, activates, empties, writes, shares, logs, escrows, releases, fresh, cleared, heap_at, caller, own_part, any, find, bytes_used}
use Rattle.ideal.specs.Step.{accepted, settle, step_by, effect, refusal, first_holding, tests, idle, vacant, beyond, full, is_named, is_escrowed, found, absent, value_in, has_handle, handle_of, next, free_from, free_handle, spent, given_up, paired, pair_of, protected, move, apply, reading_by, step_on_by}
use Rattle.ideal.specs.Tables.{box_record, tables, fresh_tables}
use Rattle.ideal.specs.Box.{Element, laid, call_on, element_at, tables_from, tables_after, tables_before, answer_at}
use Rattle.ideal.specs.Refusals.{own_bytes}
use Rattle.ideal.specs.Secrecy.{inside, group_runs, AlikeAt, same, other_bytes, PremiseAt}
use Rattle.ideal.specs.Witness.{group, calls, element, elements, Differing, PremisesCanBeMet}
use Rattle.ideal.specs.Valid.{Valid}
use Rattle.ideal.proofs.Laid.{step_element, fresh_tables_lem, call_is}
use Rattle.ideal.proofs.Kept.{valid_fresh, valid_effect}
use Rattle.lists.proofs.Bools.{and_false, and_other}
use Rattle.ideal.proofs.Hosted.{byte_is}
use Rattle.ideal.proofs.OwnHeap.{own_bytes_lem as own-heap}
use Rattle.ideal.proofs.TwoStates.{SameBut, same_state, AlikeCalls, same_call, other_call, NoneTold}
use Rattle.ideal.proofs.TwoRuns.{Indexed, ended, both}
use Rattle.ideal.proofs.Secret.{same_effect, held, runs_below}
use Rattle.ideal.proofs.Does.{protect_passed}

-- ---- a list of calls, each read back from its record and accepted

pub data Accepted : State → List Call → Type 0 where
  none : {s : State} → Accepted s []
  call : {s : State} {c : Call} {cs : List Call} → read (write c) ≡ whole c (length (write c)) → refusal s c ≡ 0
      → Accepted (effect s c) cs → Accepted s (c ∷ cs)

unfoldable pub after : State → List Call → State
after s [] = s
after s (c ∷ cs) = after (effect s c) cs

module _ {s : State} {c : Call} (v : Valid s) (r : read (write c) ≡ whole c (length (write c))) (p : refusal s c ≡ 0) where
  accepted_is : call_on (tables s) (element c) ≡ laid (accepted s c (length (write c)))
  unfolding element step_element step_on_by reading_by step_by settle
  accepted_is = call_is s (element c) v ∙ rw (r, p)

  pub next_tables : (call_on (tables s) (element c)).tables ≡ tables (effect s c)
  unfolding laid accepted
  next_tables = ap (λ x. x.tables) accepted_is

  code_zero : (call_on (tables s) (element c)).answer.code ≡ 0
  unfolding laid accepted
  code_zero = ap (λ x. x.answer.code) accepted_is

pub all_valid : {s : State} {cs : List Call} → Valid s → Accepted s cs → Valid (after s cs)
unfolding after
all_valid v none = v
all_valid v (call r p a) = all_valid (valid_effect _ _ v p) a

pub tables_end : {s : State} {cs : List Call} → Valid s → Accepted s cs
    → tables_from call_on (tables s) (map element cs) ≡ tables (after s cs)
unfolding tables_from after
tables_end v none = refl
tables_end v (call {cs = cs} r p a) =
    ap (λ x. tables_from call_on x (map element cs)) (next_tables v r p) ∙ tables_end (valid_effect _ _ v p) a

codes : {s : State} {cs : List Call} → Valid s → Accepted s cs → (k : ℕ) → k < length (map element cs)
    → (call_on (tables_from call_on (tables s) (take k (map element cs))) (element_at (map element cs) k)).answer.code ≡ 0
unfolding tables_from element_at
codes v none k l = absurd (omega arith)
codes v (call r p a) zero l = code_zero v r p
codes v (call {cs = cs} r p a) (suc k) l =
    ap (λ x. (call_on (tables_from call_on x (take k (map element cs))) (element_at (map element cs) k)).answer.code)
    (next_tables v r p)
    ∙ codes (valid_effect _ _ v p) a k (omega arith)

-- ---- two lists in step

abbrev pub Unless : Bool → Type 0 → Type 0
Unless true X = Unit {0}
Unless false X = X

-- what the premise asks of an accepted call, by its moves in both states
abbrev pub Known : Move → Move → Type 0
Known nothing n = Unit {0}
Known (takes p i) n = Unit {0}
Known (activates p) n = Unit {0}
Known (empties p) n = Unit {0}
Known (writes p o v) n = Unit {0}
Known (shares o v) n = Unit {0}
Known (logs e) n = logs e ≡ n
Known (escrows e) n = Unless (inside group e.key.recipient) (escrows e ≡ n)
Known (releases i r h) n = Unit {0}

pub data Steps : State → State → List Call → List Call → Type 0 where
  end : {s t : State} → Steps s t [] []
  step : {s t : State} {c d : Call} {cs ds : List Call} → AlikeCalls (held group) s c d → Known (move s c) (move t c)
      → Steps (effect s c) (effect t d) cs ds → Steps s t (c ∷ cs) (d ∷ ds)

pub alike : {s t : State} {c : Call} {cs ds : List Call} → Known (move s c) (move t c) → Steps (effect s c) (effect t c) cs ds
    → Steps s t (c ∷ cs) (c ∷ ds)
alike {c = c} k rest = step (same_call c) k rest

told : {s t : State} {c : Call} → Known (move s c) (move t c) → NoneTold (held group) s t c
unfolding move protected
told {s} {t} k =
    record {
      attests = λ g o n q h.
          let m = subst (λ x. Known (move s x) (move t x)) q k in
          let e : pair_of (caller s) (own_part s o n) ≡ pair_of (caller t) (own_part t o n) = cc in
          ap (λ x. x.value) e;
      protects = λ g i o n d q out r.
          let known = subst (λ x. Known (move s x) (move t x)) q k in
          let m = subst (λ b. Unless b (move s (protect i o n d) ≡ move t (protect i o n d))) (and_other _ _ g out) known in
          let e : protected s i o n d ≡ protected t i o n d = cc in
          ap (λ x. x.value) e;
      retrieves = λ g i o h q r. and_false (inside group i) _ g;
      follows = λ g first b q left i h rest come some. and_false (inside group i) _ g;
    }

pub whole_call : {c d : Call} {m n : ℕ} → whole c m ≡ whole d n → c ≡ d
whole_call e = cc

same_used : (p o : ℕ) (v w : List ℕ) → length v ≡ length w
    → length (write (heap_write p o v)) ≡ length (write (heap_write p o w))
unfolding stands kinds among kind_of only record_of filled record_in write little
same_used p o v w n = omega arith

module _ {s t : State} {c : Call} (k : SameBut (held group) s t) (v : Valid s) (w : Valid t)
    (r : read (write c) ≡ whole c (length (write c))) where
  own_bytes_lem : (o n : ℕ) → inside group (caller s) ≡ true → o + n ≤ 256 → own_part s o n ≡ own_part t o n
      → own_bytes (tables s) o n ≡ own_bytes (tables t) o n
  own_bytes_lem o n g h q =
      let b = runs_below group s v g in
      let e = k.running in
      own-heap s v b o n h ∙ q ∙ sym (own-heap t w (omega arith) o n h)

  premise_at : refusal s c ≡ 0 → NoneTold (held group) s t c → PremiseAt call_on group (tables s) (tables t) (element c)
  unfolding group_runs tables box_record element protected
  premise_at p m =
      record {
        attests = λ g o n u q h. own_bytes_lem o n g h (m.attests g o n (whole_call (sym r ∙ q)) h);
        protects = λ g i o n d u q out _.
            let e = whole_call (sym r ∙ q) in
            own_bytes_lem o n g (protect_passed s i o n d v (rw e at p)).fits (m.protects g i o n d e (and_false (inside group (caller s)) _ out) p);
      }

alike_at : {s : State} {c d : Call} → AlikeCalls (held group) s c d → read (write c) ≡ whole c (length (write c))
    → read (write d) ≡ whole d (length (write d)) → AlikeAt group (tables s) (element c) (element d)
unfolding group_runs tables box_record element
alike_at (same_call c) r r' = same refl
alike_at (other_call p o v w g n) r r' =
    other_bytes g
    (record {
      place = p;
      offset = o;
      used = length (write (heap_write p o v));
      bytes₁ = v;
      bytes₂ = w;
      count = n;
      reads₁ = r;
      reads₂ = r' ∙ ap (whole (heap_write p o w)) (sym (same_used p o v w n));
      output_size = refl;
      profile = refl;
    })

-- with elements behind them
pub indexed : {s t : State} {cs ds : List Call} (es fs : List Element) → SameBut (held group) s t → Valid s → Valid t
    → Accepted s cs → Accepted t ds → Steps s t cs ds → Indexed call_on group (tables (after s cs)) (tables (after t ds)) es fs
    → Indexed call_on group (tables s) (tables t) (map element cs ++ es) (map element ds ++ fs)
unfolding after
indexed es fs k v w none none end more = more
indexed {t = t} es fs k v w (none {s = s}) (call {c = c} {cs = cs} r' p' b) x33 more = elim x33 [ ]
indexed {t = t} es fs k v w (call {s = s} {c = c} {cs = cs} r p a) none x16 more = elim x16 [ ]
indexed es fs k v w (call r p a) (call r' p' b) (step {cs = cs} {ds = ds} l m rest) more =
    let next = same_effect (held group) k l (told m) p in
    both call_on group (alike_at l r r') (premise_at k v w r p (told m))
    (subst₂ (λ x y. Indexed call_on group x y (map element cs ++ es) (map element ds ++ fs)) (sym (next_tables v r p))
    (sym (next_tables w r' p')) (indexed es fs next (valid_effect _ _ v p) (valid_effect _ _ w p') a b rest more))

-- ---- a list with a byte left open

pub record Open (calls : ℕ → List Call) (place offset : ℕ) : Type 0 where
  pub accepts : (a : ℕ) → Accepted fresh (calls a)
  pub steps : (a b : ℕ) → Steps fresh fresh (calls a) (calls b)
  pub heap : (a : ℕ) → get_or (heap_at (after fresh (calls a)) place) offset 0 ≡ a

module _ {calls : ℕ → List Call} {place offset : ℕ} (c : Open calls place offset) (p : place < 16) (o : offset < 256) where
  secret : (b : ℕ) → get_or (tables_after call_on (map element (calls b))).heaps (256 * place + offset) 0 ≡ b
  unfolding tables_after
  secret b =
      let a = c.accepts b in
      ap (λ t. get_or t.heaps (256 * place + offset) 0)
      (ap (λ t. tables_from call_on t (map element (calls b))) fresh_tables_lem ∙ tables_end valid_fresh a)
      ∙ byte_is (after fresh (calls b)) (all_valid valid_fresh a) place offset p o
      ∙ c.heap b

  all_accepted_lem : (b k : ℕ) → k < length (map element (calls b)) → (answer_at call_on (map element (calls b)) k).code ≡ 0
  unfolding tables_before tables_after answer_at
  all_accepted_lem b k l =
      ap (λ t. (call_on (tables_from call_on t (take k (map element (calls b)))) (element_at (map element (calls b)) k)).answer.code) fresh_tables_lem
      ∙ codes valid_fresh (c.accepts b) k l

  indexed_elements : (a b : ℕ) → Indexed call_on group fresh_tables fresh_tables (map element (calls a)) (map element (calls b))
  indexed_elements a b =
      rw fresh_tables_lem
      (subst₂ (λ x y. Indexed call_on group (tables fresh) (tables fresh) x y) (append-nil _) (append-nil _)
      (indexed [] [] (same_state (held group) fresh) valid_fresh valid_fresh (c.accepts a) (c.accepts b)
      (c.steps a b) (ended call_on group)))

  pub differing : Differing call_on (map element (calls 66)) (map element (calls 67)) (256 * place + offset)
  unfolding tables_before tables_after
  differing =
      let i = indexed_elements 66 67 in
      record {
        alike = record { long = i.long; alike = i.alike };
        premise = i.premise;
        accepted₁ = all_accepted_lem 66;
        accepted₂ = all_accepted_lem 67;
        secret₁ = secret 66;
        secret₂ = secret 67;
      }

-- ---- the witness

-- on the states, with the bytes left open
computed : Open calls 1 0
unfolding after calls group fresh cleared own_part any find bytes_used full is_named is_escrowed found absent value_in has_handle handle_of next free_from free_handle spent given_up paired first_holding idle vacant beyond tests refusal protected move apply effect inside stands kinds among kind_of from_little field contents bytes_field fields read_fields read_kind after_map read only record_of filled record_in write little
computed =
    record {
      accepts = λ a.
          call refl refl (call refl refl (call refl refl (call refl refl (call refl refl (call refl refl (call refl refl
          (call refl refl (call refl refl (call refl refl (call refl refl (call refl refl (call refl refl (call refl refl
          (call refl refl (call refl refl (call refl refl (call refl refl (call refl refl none))))))))))))))))));
      steps = λ a b.
          alike tt (alike tt (alike tt (alike tt (alike tt (alike refl (alike refl
          (step (other_call 0 1 (a ∷ []) (b ∷ []) refl refl) tt
          (alike tt (alike tt (alike tt (alike tt (alike tt (alike tt (alike tt (alike tt (alike tt (alike tt (alike tt
          end))))))))))))))))));
      heap = λ a. refl;
    }

pub premises_can_be_met : PremisesCanBeMet call_on
unfolding elements
premises_can_be_met = differing computed (omega arith) (omega arith)
