-- Two escrows that agree but for the values under some keys. Assumes nothing.
use Prim.Native.Nat.{ℕ, zero, suc}
use mathlib.Core.Path.{◌≡◌, refl, sym, ap}
use mathlib.Core.Bool.{Bool, true, false, false≢true}
use mathlib.Core.List.{List, [], ◌∷◌, ◌++◌, map}
use mathlib.Core.Option.{Option, none, some}
use lib.ListN.{length, get_or}
use lib.Dec.{eqb}
use borrow.Author.Tests.{eqb-true}
use Rattle.record.specs.declared.Handle.{Handle}
use Rattle.record.specs.declared.Draw.{Draw}
use Rattle.ideal.specs.State.{EscrowKey, Escrowed, any, find, bytes_used}
use Rattle.ideal.specs.Step.{full, is_named, is_escrowed, spent, given_up, absent, value_in, has_handle, handle_of, next, free_from, free_handle}
use Rattle.lists.proofs.Bools.{by_cases, and_left, and_right}

pub record SameEntry (secret : EscrowKey → Bool) (r q : Escrowed) : Type 0 where
  pub key : r.key ≡ q.key
  pub size : length r.value ≡ length q.value
  pub value : secret r.key ≡ false → r.value ≡ q.value

pub data SameEscrow (secret : EscrowKey → Bool) : List Escrowed → List Escrowed → Type 0 where
  no_entries : SameEscrow secret [] []
  entry : {r q : Escrowed} {l m : List Escrowed} → SameEntry secret r q → SameEscrow secret l m
      → SameEscrow secret (r ∷ l) (q ∷ m)

-- what a retrieve finds in each, under a key that is secret or not
pub record SameFound (secret : Bool) (x y : Option Escrowed) : Type 0 where
  pub absent : absent x ≡ absent y
  pub size : length (value_in x) ≡ length (value_in y)
  pub value : secret ≡ false → value_in x ≡ value_in y

-- where nothing is found, there is nothing that is secret
pub same_absent : {secret : Bool} (x y : Option Escrowed) → SameFound secret x y → absent x ≡ true → SameFound false x y
unfolding absent value_in
same_absent none none f a = record { absent = refl; size = refl; value = λ _. refl }
same_absent none (some r) f a = absurd (false≢true (sym f.absent))
same_absent (some r) y f a = absurd (false≢true a)

module _ (secret : EscrowKey → Bool) where
  pub same_escrow : (l : List Escrowed) → SameEscrow secret l l
  same_escrow [] = no_entries
  same_escrow (r ∷ l) = entry (record { key = refl; size = refl; value = λ _. refl }) (same_escrow l)

  pub same_count : {l m : List Escrowed} → SameEscrow secret l m → length l ≡ length m
  same_count no_entries = refl
  same_count (entry x xs) = ap suc (same_count xs)

  pub same_bytes_used : {l m : List Escrowed} → SameEscrow secret l m → bytes_used l ≡ bytes_used m
  unfolding bytes_used
  same_bytes_used no_entries = refl
  same_bytes_used (entry x xs) = rw (x.size, same_bytes_used xs)

  pub same_at : {l m : List Escrowed} (d : Escrowed) (k : ℕ) → SameEscrow secret l m
      → SameEntry secret (get_or l k d) (get_or m k d)
  same_at d k no_entries = record { key = refl; size = refl; value = λ _. refl }
  same_at d zero (entry x xs) = x
  same_at d (suc k) (entry x xs) = same_at d k xs

  pub same_more : {l m : List Escrowed} {r q : Escrowed} → SameEscrow secret l m → SameEntry secret r q
      → SameEscrow secret (l ++ (r ∷ [])) (m ++ (q ∷ []))
  same_more no_entries y = entry y no_entries
  same_more (entry x xs) y = entry x (same_more xs y)

  pub same_full : {l m : List Escrowed} (n : ℕ) → SameEscrow secret l m → full l n ≡ full m n
  unfolding full
  same_full n xs = rw (same_count xs, same_bytes_used xs)

  -- ---- a release

  same_given : {r q : Escrowed} (h : Handle) (i j : ℕ) → SameEntry secret r q → SameEntry secret (given_up h i j r) (given_up h i j q)
  unfolding given_up spent
  same_given {r} {q} h i j x =
      let n : is_named h i j r ≡ is_named h i j q = unfold is_named in rw x.key in
      by_cases (is_named h i j r)
      (λ e. rw (← n, e) (record { key = rw x.key; size = refl; value = λ _. refl }))
      (λ e. rw (← n, e) x)

  pub same_release : {l m : List Escrowed} (h : Handle) (i j : ℕ) → SameEscrow secret l m
      → SameEscrow secret (map (given_up h i j) l) (map (given_up h i j) m)
  same_release h i j no_entries = no_entries
  same_release h i j (entry x xs) = entry (same_given h i j x) (same_release h i j xs)

  -- ---- handles

  same_in_use : {l m : List Escrowed} (h : Handle) → SameEscrow secret l m → any (has_handle h) l ≡ any (has_handle h) m
  unfolding any has_handle
  same_in_use h no_entries = refl
  same_in_use h (entry x xs) = rw (x.key, same_in_use h xs)

  same_from : {l m : List Escrowed} (k n d : ℕ) → SameEscrow secret l m → free_from k n d l ≡ free_from k n d m
  unfolding free_from
  same_from zero n d xs = refl
  same_from (suc k) n d xs = rw (same_in_use (handle_of n d) xs, same_from k n (next d) xs)

  pub same_handle_lem : {l m : List Escrowed} (n : ℕ) (d : Draw) → SameEscrow secret l m → free_handle n d l ≡ free_handle n d m
  unfolding free_handle
  same_handle_lem n d xs = same_from 64 n d.0 xs

  -- ---- what a retrieve finds

  escrowed_key : (h : Handle) (source recipient : ℕ) (r : Escrowed) → is_escrowed h source recipient r ≡ true
      → r.key ≡ record { source = source; recipient = recipient; handle = h; mark = 0 }
  unfolding is_escrowed is_named
  escrowed_key h i j r e =
      let named = and_left (is_named h i j r) _ e in
      let a = eqb-true r.key.handle.0 h.0 (and_left _ _ named) in
      let f = and_right (eqb r.key.handle.0 h.0) _ named in
      let b = eqb-true r.key.source i (and_left _ _ f) in
      let c = eqb-true r.key.recipient j (and_right (eqb r.key.source i) _ f) in
      let d = eqb-true r.key.mark 0 (and_right (is_named h i j r) _ e) in
      λ n. record { source = b n; recipient = c n; handle = record { 0 = a n }; mark = d n }

  same_is : {r q : Escrowed} (h : Handle) (i j : ℕ) → SameEntry secret r q → is_escrowed h i j r ≡ is_escrowed h i j q
  unfolding is_escrowed is_named
  same_is h i j x = rw x.key

  pub same_find : {l m : List Escrowed} (h : Handle) (i j : ℕ) → SameEscrow secret l m
      → SameFound (secret (record { source = i; recipient = j; handle = h; mark = 0 })) (find (is_escrowed h i j) l)
      (find (is_escrowed h i j) m)
  unfolding find absent value_in
  same_find h i j no_entries = record { absent = refl; size = refl; value = λ _. refl }
  same_find h i j (entry {r = r} {q = q} x xs) =
      by_cases (is_escrowed h i j r)
      (λ e.
      rw (← same_is h i j x, e)
      (record { absent = refl; size = x.size; value = λ k. x.value (rw (escrowed_key h i j r e) k) }))
      (λ e. rw (← same_is h i j x, e) (same_find h i j xs))
