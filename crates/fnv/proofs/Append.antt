-- FNV-1a of one list after another, and of a list from one index on. Assumes nothing.
use Rattle.std.proofs.Common.{◌≡◌, ℕ, ◌+◌, ◌<◌, List, [], ◌∷◌, ◌++◌, length, get_or, drop, refl, add-one, drop-cons}
use Rattle.fnv.specs.Fnv.{mixed, fnv_from, fnv1a, little, tag_of}

pub fnv_append : (h : ℕ) (a b : List ℕ) → fnv_from h (a ++ b) ≡ fnv_from (fnv_from h a) b
unfolding fnv_from
fnv_append h [] b = refl
fnv_append h (x ∷ a) b = fnv_append (mixed h x) a b

-- one byte on: where what is left to fold from x on gives r, it does from y on
pub fnv_step : {y r : ℕ} (x : ℕ) (s : List ℕ) (i : ℕ) → i < length s → y ≡ mixed x (get_or s i 0)
    → fnv_from x (drop i s) ≡ r → fnv_from y (drop (i + 1) s) ≡ r
unfolding fnv_from
fnv_step x s i l e h = rw (e, add-one) (rw (drop-cons s i 0 l) at h)

-- the value folded after the identity's bytes
pub tag_folded : {t h : ℕ} (identity : ℕ) (value : List ℕ) → h ≡ fnv1a (little 8 identity) → t ≡ fnv_from h value
    → t ≡ (tag_of identity value).0
unfolding tag_of fnv1a
tag_folded identity value e f = cc (fnv_append 14695981039346656037 (little 8 identity) value)
