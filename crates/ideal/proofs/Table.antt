-- The laws of a table, for the log and the escrow both: rows with a key over value bytes, and the entries that they stand for.
-- Assumes nothing.
use Prim.Native.Nat.{ℕ, zero, suc, ◌+◌, ◌-◌, ◌≤◌}
use mathlib.Core.Path.{◌≡◌, refl, sym, ap, ◌∙◌}
use mathlib.Core.Bool.{Bool, true}
use mathlib.Core.List.{List, [], ◌∷◌, ◌++◌, append_assoc}
use native.Mathlib.Omega.{arith}
use native.Mathlib.Nat.{zero-add}
use lib.ListN.{length, take, drop, replicate, length-append, length-replicate, length-drop, take-append-drop}
use lib.Seq.{take_at, drop_at, length-take-le, drop-drop}
use lib.Dec.{eqb}
use borrow.Author.Tests.{eqb-true, eq-eqb}
use Rattle.ideal.specs.declared.Used.{Used}
use Rattle.ideal.specs.State.{Entry, part, every, bytes_used}
use Rattle.ideal.specs.Tables.{RowsOf, log_table, escrow_table, padded, values_of, used_by, rows_from, rows_of, entries_of}
use Rattle.ideal.specs.Soundness.{all_zero, chained}
use Rattle.lists.proofs.Bools.{and_left, and_right, and_true}

-- ---- padding

pub every_replicate : {A : Type 0} (p : A → Bool) (n : ℕ) (a : A) → p a ≡ true → every p (replicate n a) ≡ true
unfolding every
every_replicate p zero a h = refl
every_replicate p (suc n) a h = and_true (p a) _ h (every_replicate p n a h)

-- a list of one element only
pub replicated : {A : Type 0} (p : A → Bool) (z : A) → ((a : A) → p a ≡ true → a ≡ z) → (l : List A) → every p l ≡ true
    → l ≡ replicate (length l) z
unfolding every
replicated p z f [] h = refl
replicated p z f (a ∷ l) h =
    let e = f a (and_left (p a) _ h) in
    let t = replicated p z f l (and_right (p a) _ h) in
    λ i. e i ∷ t i

pub zeros : (l : List ℕ) → all_zero l ≡ true → l ≡ replicate (length l) 0
unfolding all_zero
zeros l h = replicated (λ b. eqb b 0) 0 (λ a e. eqb-true a 0 e) l h

pub zeros_zero : (n : ℕ) → all_zero (replicate n 0) ≡ true
unfolding all_zero
zeros_zero n = every_replicate (λ b. eqb b 0) n 0 refl

module _ {A : Type 0} (n : ℕ) (z : A) (l : List A) where
  pub padded_length : length l ≤ n → length (padded n z l) ≡ n
  unfolding padded
  padded_length h = simp (length-append, length-replicate) (omega arith)

  pub padded_front : (m : ℕ) → length l ≡ m → take m (padded n z l) ≡ l
  unfolding padded
  padded_front m h = take_at l _ m h

  pub padded_rest : (m : ℕ) → length l ≡ m → drop m (padded n z l) ≡ replicate (n - m) z
  unfolding padded
  padded_rest m h = drop_at l _ m h ∙ rw h

-- a list whose rest is padding
pub padded_is : {A : Type 0} (n : ℕ) (z : A) (front l : List A) (m : ℕ) → front ++ drop m l ≡ l → length front ≡ m → length l ≡ n
    → drop m l ≡ replicate (length (drop m l)) z → padded n z front ≡ l
unfolding padded
padded_is n z front l m e f g h =
    let d : n - length front ≡ length (drop m l) = simp length-drop (omega arith) in
    rw (d, ← h) e

-- ---- entries

pub values_length : {Key : Type 0} (l : List (Entry Key)) → length (values_of l) ≡ bytes_used l
unfolding values_of bytes_used
values_length [] = refl
values_length (e ∷ l) = length-append e.value (values_of l) ∙ ap (λ n. length e.value + n) (values_length l)

pub part_at : (pre v rest : List ℕ) (at : ℕ) → length pre ≡ at → part (pre ++ (v ++ rest)) at (length v) ≡ v
part_at pre v rest at e = rw (drop_at pre (v ++ rest) at e, take_at v rest (length v) refl)

pub part_length : (vs : List ℕ) (at n : ℕ) → at + n ≤ length vs → length (part vs at n) ≡ n
part_length vs at n h = length-take-le n (drop at vs) (simp length-drop (omega arith))

-- what is asked of a kind of row: a row is its key, first byte and length, and only the blank row is blank
pub record Lawful {Row Key : Type 0} (t : RowsOf Row Key) : Type 0 where
  pub key : (k : Key) (at n : ℕ) → t.key (t.row k at n) ≡ k
  pub first : (k : Key) (at n : ℕ) → t.first (t.row k at n) ≡ at
  pub size : (k : Key) (at n : ℕ) → t.size (t.row k at n) ≡ n
  pub row : (r : Row) → t.row (t.key r) (t.first r) (t.size r) ≡ r
  pub blank : (r : Row) → t.is_blank r ≡ true → r ≡ t.blank
  pub is_blank_lem : t.is_blank t.blank ≡ true

-- the entries that a table holds
abbrev pub held : {Row Key : Type 0} (t : RowsOf Row Key) → List Row → List ℕ → Used → List (Entry Key)
held t rows values used = entries_of t values (take used.rows rows)

-- the part of soundness that says where rows and values stand
pub record Stands {Row Key : Type 0} (t : RowsOf Row Key) (rows : List Row) (values : List ℕ) (used : Used) : Type 0 where
  pub row_count : length rows ≡ 64
  pub value_count : length values ≡ 4096
  pub few : used.rows ≤ 64
  pub fits : used.bytes ≤ 4096
  pub chain : chained t used.bytes 0 (take used.rows rows) ≡ true
  pub blank : every t.is_blank (drop used.rows rows) ≡ true
  pub zero : all_zero (drop used.bytes values) ≡ true

module _ {Row Key : Type 0} {t : RowsOf Row Key} (law : Lawful t) where
  -- ---- the rows of entries

  pub rows_length : (at : ℕ) (l : List (Entry Key)) → length (rows_from t at l) ≡ length l
  unfolding rows_from
  rows_length at [] = refl
  rows_length at (e ∷ l) = ap suc (rows_length (at + length e.value) l)

  -- a test of rows is a test of entries
  pub rows_every : (p : Row → Bool) (q : Entry Key → Bool)
      → ((e : Entry Key) (at : ℕ) → p (t.row e.key at (length e.value)) ≡ q e)
      → (at : ℕ) (l : List (Entry Key)) → every p (rows_from t at l) ≡ every q l
  unfolding rows_from every
  rows_every p q f at [] = refl
  rows_every p q f at (e ∷ l) = rw (f e at, rows_every p q f (at + length e.value) l)

  rows_chained : (at end : ℕ) (l : List (Entry Key)) → at + bytes_used l ≡ end → chained t end at (rows_from t at l) ≡ true
  unfolding rows_from chained bytes_used
  rows_chained at end [] h = eq-eqb at end (omega arith)
  rows_chained at end (e ∷ l) h =
      let n = length e.value in
      and_true _ _ (eq-eqb _ at (law.first e.key at n)) (rw (law.size e.key at n) (rows_chained (at + n) end l (omega arith)))

  rows_entries : (pre rest : List ℕ) (at : ℕ) (l : List (Entry Key)) → length pre ≡ at
      → entries_of t (pre ++ (values_of l ++ rest)) (rows_from t at l) ≡ l
  unfolding rows_from entries_of values_of
  rows_entries pre rest at [] h = refl
  rows_entries pre rest at (e ∷ l) h =
      let v = e.value in
      let n = length v in
      let r = t.row e.key at n in
      let whole : pre ++ ((v ++ values_of l) ++ rest) ≡ (pre ++ v) ++ (values_of l ++ rest) = simp append_assoc in
      let here : part (pre ++ ((v ++ values_of l) ++ rest)) (t.first r) (t.size r) ≡ v =
      rw (law.first e.key at n, law.size e.key at n, append_assoc v (values_of l) rest) (part_at pre v (values_of l ++ rest) at h) in
      let ih : entries_of t (pre ++ ((v ++ values_of l) ++ rest)) (rows_from t (at + n) l) ≡ l =
      rw whole (rows_entries (pre ++ v) rest (at + n) l (length-append pre v ∙ rw h)) in
      λ i. record { key = law.key e.key at n i; value = here i } ∷ ih i

  -- ---- the entries of rows

  pub entries_length : (vs : List ℕ) (rs : List Row) → length (entries_of t vs rs) ≡ length rs
  unfolding entries_of
  entries_length vs [] = refl
  entries_length vs (r ∷ rs) = ap suc (entries_length vs rs)

  record Link (end at : ℕ) (r : Row) (rs : List Row) : Type 0 where
    start : t.first r ≡ at
    rest : chained t end (at + t.size r) rs ≡ true

  link : (end at : ℕ) (r : Row) (rs : List Row) → chained t end at (r ∷ rs) ≡ true → Link end at r rs
  unfolding chained
  link end at r rs h =
      record {
        start = eqb-true _ _ (and_left (eqb (t.first r) at) _ h);
        rest = and_right (eqb (t.first r) at) _ h;
      }

  chain_end : (end at : ℕ) → chained t end at [] ≡ true → at ≡ end
  unfolding chained
  chain_end end at h = eqb-true at end h

  chain_le : (end at : ℕ) (rs : List Row) → chained t end at rs ≡ true → at ≤ end
  chain_le end at [] h = let e = chain_end end at h in omega arith
  chain_le end at (r ∷ rs) h = let k = chain_le end (at + t.size r) rs (link end at r rs h).rest in omega arith

  chain_rows : (vs : List ℕ) (end at : ℕ) (rs : List Row) → end ≤ length vs → chained t end at rs ≡ true
      → rows_from t at (entries_of t vs rs) ≡ rs
  unfolding rows_from entries_of
  chain_rows vs end at [] h c = refl
  chain_rows vs end at (r ∷ rs) h c =
      let l = link end at r rs c in
      let le = chain_le end (at + t.size r) rs l.rest in
      let n : length (part vs at (t.size r)) ≡ t.size r = part_length vs at (t.size r) (omega arith) in
      let e : t.row (t.key r) at (t.size r) ≡ r = ap (λ x. t.row (t.key r) x (t.size r)) (sym l.start) ∙ law.row r in
      rw (l.start, n, chain_rows vs end (at + t.size r) rs h l.rest, e)

  chain_values : (vs : List ℕ) (end at : ℕ) (rs : List Row) → chained t end at rs ≡ true
      → values_of (entries_of t vs rs) ++ drop end vs ≡ drop at vs
  unfolding values_of entries_of
  chain_values vs end at [] c = rw (chain_end end at c)
  chain_values vs end at (r ∷ rs) c =
      let l = link end at r rs c in
      let ih = chain_values vs end (at + t.size r) rs l.rest in
      rw (append_assoc, ih, l.start, ← drop-drop (t.size r) at vs, take-append-drop (t.size r) (drop at vs))

  -- ---- a whole table

  module _ (l : List (Entry Key)) where
    pub used_rows : take (length l) (rows_of t l) ≡ rows_from t 0 l
    unfolding rows_of
    used_rows = padded_front 64 t.blank (rows_from t 0 l) (length l) (rows_length 0 l)

    pub entries_back : entries_of t (padded 4096 0 (values_of l)) (take (length l) (rows_of t l)) ≡ l
    unfolding padded
    entries_back = rw used_rows (rows_entries [] (replicate (4096 - length (values_of l)) 0) 0 l refl)

    pub laid_out : length l ≤ 64 → bytes_used l ≤ 4096 → Stands t (rows_of t l) (padded 4096 0 (values_of l)) (used_by l)
    unfolding rows_of
    laid_out h k =
        let rows = rows_from t 0 l in
        let n = rows_length 0 l in
        let m = values_length l in
        record {
          row_count = padded_length 64 t.blank rows (omega arith);
          value_count = padded_length 4096 0 (values_of l) (omega arith);
          few = h;
          fits = k;
          chain = rw used_rows (rows_chained 0 (bytes_used l) l (zero-add (bytes_used l)));
          blank = rw (padded_rest 64 t.blank rows (length l) n) (every_replicate t.is_blank (64 - length l) t.blank law.is_blank_lem);
          zero = rw (padded_rest 4096 0 (values_of l) (bytes_used l) m) (zeros_zero (4096 - bytes_used l));
        }

  module _ {rows : List Row} {values : List ℕ} {used : Used} (s : Stands t rows values used) where
    used_length : length (take used.rows rows) ≡ used.rows
    used_length = length-take-le used.rows rows (omega (arith, s.few, s.row_count))

    pub rows_of_entries : rows_from t 0 (held t rows values used) ≡ take used.rows rows
    rows_of_entries = chain_rows values used.bytes 0 (take used.rows rows) (omega (arith, s.fits, s.value_count)) s.chain

    pub entry_count : length (held t rows values used) ≡ used.rows
    entry_count = entries_length values (take used.rows rows) ∙ used_length

    values_whole : values_of (held t rows values used) ++ drop used.bytes values ≡ values
    values_whole = chain_values values used.bytes 0 (take used.rows rows) s.chain

    values_count : length (values_of (held t rows values used)) ≡ used.bytes
    values_count =
        let front = values_of (held t rows values used) in
        let k : length front + length (drop used.bytes values) ≡ length values =
        sym (length-append front (drop used.bytes values)) ∙ ap length values_whole in
        let d = length-drop used.bytes values in
        omega (arith, s.fits, s.value_count)

    pub byte_count : bytes_used (held t rows values used) ≡ used.bytes
    byte_count = sym (values_length (held t rows values used)) ∙ values_count

    pub rows_back : rows_of t (held t rows values used) ≡ rows
    unfolding rows_of
    rows_back =
        rw rows_of_entries
        (padded_is 64 t.blank (take used.rows rows) rows used.rows (take-append-drop used.rows rows) used_length s.row_count
        (replicated t.is_blank t.blank law.blank (drop used.rows rows) s.blank))

    pub values_back : padded 4096 0 (values_of (held t rows values used)) ≡ values
    values_back =
        padded_is 4096 0 (values_of (held t rows values used)) values used.bytes values_whole values_count s.value_count
        (zeros (drop used.bytes values) s.zero)

-- ---- the log's rows and the escrow's

pub log_lawful : Lawful log_table
log_lawful =
    record {
      key = λ k at n. refl;
      first = λ k at n. refl;
      size = λ k at n. refl;
      row = λ r. refl;
      blank = λ r h.
          let h₁ = and_right (eqb r.identity 0) _ h in
          let h₂ = and_right (eqb r.tag.0 0) _ h₁ in
          let a = eqb-true r.identity 0 (and_left (eqb r.identity 0) _ h) in
          let b = eqb-true r.tag.0 0 (and_left (eqb r.tag.0 0) _ h₁) in
          let c = eqb-true r.first 0 (and_left (eqb r.first 0) _ h₂) in
          let d = eqb-true r.length 0 (and_right (eqb r.first 0) _ h₂) in
          λ i. record { identity = a i; tag = record { 0 = b i }; first = c i; length = d i };
      is_blank_lem = refl;
    }

pub escrow_lawful : Lawful escrow_table
escrow_lawful =
    record {
      key = λ k at n. refl;
      first = λ k at n. refl;
      size = λ k at n. refl;
      row = λ r. refl;
      blank = λ r h.
          let h₁ = and_right (eqb r.source 0) _ h in
          let h₂ = and_right (eqb r.recipient 0) _ h₁ in
          let h₃ = and_right (eqb r.handle.0 0) _ h₂ in
          let a = eqb-true r.source 0 (and_left (eqb r.source 0) _ h) in
          let b = eqb-true r.recipient 0 (and_left (eqb r.recipient 0) _ h₁) in
          let c = eqb-true r.handle.0 0 (and_left (eqb r.handle.0 0) _ h₂) in
          let d = eqb-true r.first 0 (and_left (eqb r.first 0) _ h₃) in
          let h₄ = and_right (eqb r.first 0) _ h₃ in
          let e = eqb-true r.length 0 (and_left (eqb r.length 0) _ h₄) in
          let f = eqb-true r.mark 0 (and_right (eqb r.length 0) _ h₄) in
          λ i. record { source = a i; recipient = b i; handle = record { 0 = c i }; first = d i; length = e i; mark = f i };
      is_blank_lem = refl;
    }
