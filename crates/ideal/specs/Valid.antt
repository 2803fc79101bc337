-- The states that sound boxes stand for: document 01's list a second time, entry by entry and by index, with none of the
-- tests of specs/Soundness.antt. (In `get_or l k d`, d stands where there is no entry k.)
use Rattle.std.specs.Prelude.{ℕ, ◌/◌, ◌^◌, ◌≤◌, ◌<◌, ◌≡◌, List, [], length, get_or}
use Rattle.fnv.specs.Fnv.{tag_of}
use Rattle.ideal.specs.State.{Entry, Logged, Escrowed, State, cleared, identity_at, heap_at, bytes_used}

-- a list of entries fits its table
pub record Fitting {Key : Type 0} (l : List (Entry Key)) : Type 0 where
  pub few : length l ≤ 64
  pub fits : bytes_used l ≤ 4096
  pub short : (k : ℕ) (d : Entry Key) → k < length l → length (get_or l k d).value ≤ 256

-- identities are non-zero, and the tag is the right one
pub record GoodLogged (e : Logged) : Type 0 where
  pub identity : e.key.identity ≡ 0 → ⊥
  pub tag : e.key.tag ≡ tag_of e.key.identity e.value

-- identities are non-zero, and the mark is 0 or 1; an unspent one's handle carries the length, a spent one has no bytes
pub record GoodEscrowed (e : Escrowed) : Type 0 where
  pub source : e.key.source ≡ 0 → ⊥
  pub recipient : e.key.recipient ≡ 0 → ⊥
  pub mark : e.key.mark ≤ 1
  pub handle : e.key.mark ≡ 0 → e.key.handle.0 / 2 ^ 48 ≡ length e.value
  pub spent : e.key.mark ≡ 1 → e.value ≡ []

pub record Valid (s : State) : Type 0 where
  pub places : length s.identities ≡ 16
  pub heaps : length s.heaps ≡ 16
  pub sizes : (p : ℕ) → p < 16 → length (heap_at s p) ≡ 256
  pub shared : length s.shared ≡ 1024
  pub runs : s.running ≤ 16
  pub live : s.running < 16 → identity_at s s.running ≡ 0 → ⊥
  pub empty : (p : ℕ) → p < 16 → identity_at s p ≡ 0 → heap_at s p ≡ cleared
  pub log : Fitting s.log
  pub log_good : (k : ℕ) (d : Logged) → k < length s.log → GoodLogged (get_or s.log k d)
  pub pairs_differ : (j k : ℕ) (d : Logged) → j < k → k < length s.log
      → (get_or s.log j d).key.identity ≡ (get_or s.log k d).key.identity → (get_or s.log j d).value ≡ (get_or s.log k d).value → ⊥
  pub escrow : Fitting s.escrow
  pub escrow_good : (k : ℕ) (d : Escrowed) → k < length s.escrow → GoodEscrowed (get_or s.escrow k d)
  pub handles_differ : (j k : ℕ) (d : Escrowed) → j < k → k < length s.escrow
      → (get_or s.escrow j d).key.handle ≡ (get_or s.escrow k d).key.handle → ⊥
