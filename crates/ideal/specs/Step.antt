-- The calls on the state: their tests, moves, answer numbers and shown bytes (document 01's table).
use Rattle.std.specs.Prelude.{ℕ, zero, suc, ◌+◌, ◌*◌, ◌%◌, ◌^◌, Bool, true, false, not, ◌&&◌, ◌||◌, cond, List, [], ◌∷◌, ◌++◌, map, length, set, take, drop, eqb, ltb, leb}
use Rattle.std.proofs.Math.Option.{Option, none, some}
use Rattle.std.proofs.lemmas.List.Edits.{sets}
use Rattle.fnv.specs.declared.Tag.{Tag}
use Rattle.fnv.specs.Fnv.{tag_of}
use Rattle.record.specs.declared.Handle.{Handle}
use Rattle.record.specs.declared.Draw.{Draw}
use Rattle.record.specs.Call.{Link, logged_link, escrowed_link, stray_link, link_by, identity_of, Call, create, exit, heap_write, heap_read, shared_write, shared_read, attest, check, protect, retrieve, report, hand_over, chain, release}
use Rattle.record.specs.Read.{Reading, refused, whole, read, from_little}
use Rattle.ideal.specs.State.{Entry, Logged, Escrowed, State, Move, nothing, takes, activates, empties, writes, shares, logs, escrows, releases, cleared, identity_at, heap_at, caller, part, own_part, any, find, same_bytes, bytes_used}

infixr 20 ◌then◌
-- ---- the log

unfoldable pub is_pair : ℕ → List ℕ → Logged → Bool
is_pair i v r = eqb r.key.identity i && same_bytes r.value v

unfoldable pub is_logged : ℕ → Tag → List ℕ → Logged → Bool
is_logged i g v r = eqb r.key.identity i && (eqb r.key.tag.0 g.0 && same_bytes r.value v)

-- the pair (identity, value) is in the log
unfoldable pub paired : ℕ → List ℕ → List Logged → Bool
paired i v l = any (is_pair i v) l

-- (identity, value, tag) is in the log
unfoldable pub logged : ℕ → Tag → List ℕ → List Logged → Bool
logged i g v l = any (is_logged i g v) l

-- 64 rows are used, or the bytes used with these above 4,096
unfoldable pub full : {Key : Type 0} → List (Entry Key) → ℕ → Bool
full l size = eqb (length l) 64 || ltb 4096 (bytes_used l + size)

-- the entry of a pair
abbrev pub pair_of : ℕ → List ℕ → Logged
pair_of i v = record { key = record { identity = i; tag = tag_of i v }; value = v }

-- the log with one entry more, or the same where its pair is there
unfoldable pub with_pair : Logged → List Logged → List Logged
with_pair e l = cond (paired e.key.identity e.value l) l (l ++ (e ∷ []))

-- ---- the escrow

-- an entry from a source for a recipient under a handle, spent or not
unfoldable pub is_named : Handle → ℕ → ℕ → Escrowed → Bool
is_named h source recipient r =
    eqb r.key.handle.0 h.0 && (eqb r.key.source source && eqb r.key.recipient recipient)

-- and unspent
unfoldable pub is_escrowed : Handle → ℕ → ℕ → Escrowed → Bool
is_escrowed h source recipient r = is_named h source recipient r && eqb r.key.mark 0

-- what the source escrowed for the running program under the handle
unfoldable pub found : State → ℕ → Handle → Option Escrowed
found s source h = find (is_escrowed h source (caller s)) s.escrow

unfoldable pub absent : Option Escrowed → Bool
absent none = true
absent (some r) = false

unfoldable pub value_in : Option Escrowed → List ℕ
value_in none = []
value_in (some r) = r.value

unfoldable pub has_handle : Handle → Escrowed → Bool
has_handle h r = eqb r.key.handle.0 h.0

-- handle: length times 2^48 plus a draw
unfoldable pub handle_of : ℕ → ℕ → Handle
handle_of size draw = record { 0 = size * 2 ^ 48 + draw }

-- the draw after a draw whose handle is in an escrow row, as POSIX defines for drand48 (5DEECE66D and B in hexadecimal)
unfoldable pub next : ℕ → ℕ
next draw = (25214903917 * draw + 11) % 2 ^ 48

-- the handle of the first free draw, where at most n are passed over
unfoldable pub free_from : ℕ → ℕ → ℕ → List Escrowed → Handle
free_from zero size draw l = handle_of size draw
free_from (suc n) size draw l =
    let later = free_from n size (next draw) l in
    cond (any (has_handle (handle_of size draw)) l) later (handle_of size draw)

unfoldable pub free_handle : ℕ → Draw → List Escrowed → Handle
free_handle size draw l = free_from 64 size draw.0 l

-- an entry marked spent, of no bytes
unfoldable pub spent : Escrowed → Escrowed
spent r =
    let k = r.key in
    record { key = record { source = k.source; recipient = k.recipient; handle = k.handle; mark = 1 }; value = [] }

-- what a release leaves of an entry: it stays, and is spent where it is the one so named
unfoldable pub given_up : Handle → ℕ → ℕ → Escrowed → Escrowed
given_up h source recipient r = cond (is_named h source recipient r) (spent r) r

-- ---- refusals: the tests of each kind, rising

pub data Tests : Type 0 where
  accept : Tests
  ◌then◌ : ℕ × Bool → Tests → Tests

-- the number of the first test that holds; 0 where none does
unfoldable pub first_holding : Tests → ℕ
first_holding accept = 0
first_holding (t then ts) = cond t.1 t.0 (first_holding ts)

-- ---- a chain of custody (document 02, P3)

pub data Head : Type 0 where
  malformed : Head
  ends : Head
  leads : Link → Head

-- the head of a value: 1 ends the chain; after 2 or 3 stand the next link's identity and its tag or handle; the rest is payload
unfoldable pub head_of : List ℕ → Head
head_of [] = malformed
head_of (b ∷ v) =
    let link = link_by b (from_little (take 8 v)) (from_little (take 8 (drop 8 v))) in
    cond (eqb b 1) ends (cond ((eqb b 2 || eqb b 3) && leb 16 (length v)) (leads link) malformed)

unfoldable pub is_malformed : Head → Bool
is_malformed malformed = true
is_malformed ends = false
is_malformed (leads k) = false

-- the chain bytes hold the logged values in order, each after a count of 2 bytes; here the next one's
unfoldable pub next_count : List ℕ → ℕ
next_count bs = from_little (take 2 bs)

-- its count or its contents are cut
unfoldable pub next_cut : List ℕ → Bool
next_cut bs = ltb (length bs) (2 + next_count bs)

unfoldable pub next_value : List ℕ → List ℕ
next_value bs = take (next_count bs) (drop 2 bs)

-- of a way that no link has, or its logged value is cut in the chain bytes
unfoldable pub unreadable : Link → List ℕ → Bool
unreadable (logged_link i g) bs = next_cut bs
unreadable (escrowed_link i h) bs = false
unreadable (stray_link w i x) bs = true

-- the chain bytes behind a link
unfoldable pub bytes_after : Link → List ℕ → List ℕ
bytes_after (logged_link i g) bs = drop (2 + next_count bs) bs
bytes_after (escrowed_link i h) bs = bs
bytes_after (stray_link w i x) bs = bs

-- what follows a head that is not malformed, where these chain bytes are left: `later` goes on with the next link
unfoldable pub after_head : (Link → List ℕ → Tests) → Head → List ℕ → Tests
after_head later malformed bs = accept
after_head later ends bs = (19, not (eqb (length bs) 0)) then accept
after_head later (leads k) bs = later k bs

unfoldable pub links_after : (Link → List ℕ → ℕ) → Head → List ℕ → ℕ
links_after later malformed bs = 0
links_after later ends bs = 0
links_after later (leads k) bs = later k bs

-- the log, and what the caller finds in the escrow under a source and a handle
module _ (log : List Logged) (look_up : ℕ → Handle → Option Escrowed) where
  -- a logged value stands in the chain bytes, an escrowed one in the escrow
  unfoldable pub link_value : Link → List ℕ → List ℕ
  link_value (logged_link i g) bs = next_value bs
  link_value (escrowed_link i h) bs = value_in (look_up i h)
  link_value (stray_link w i x) bs = []

  -- the check is no, or no row is found
  unfoldable pub unvouched : Link → List ℕ → Bool
  unvouched (logged_link i g) bs = not (logged i g (next_value bs) log)
  unvouched (escrowed_link i h) bs = absent (look_up i h)
  unvouched (stray_link w i x) bs = true

  -- the tests of a link and of all that come after it, where so many may still be followed
  unfoldable pub follow : ℕ → Link → List ℕ → Tests
  follow zero k bs = (20, true) then accept
  follow (suc left) k bs =
      let head = head_of (link_value k bs) in
      (19, unreadable k bs)
      then (9, eqb (identity_of k) 0)
      then (18, unvouched k bs)
      then (19, is_malformed head)
      then after_head (follow left) head (bytes_after k bs)

  -- how many links there are
  unfoldable pub links_from : ℕ → Link → List ℕ → ℕ
  links_from zero k bs = 0
  links_from (suc left) k bs = 1 + links_after (links_from left) (head_of (link_value k bs)) (bytes_after k bs)

-- none runs
unfoldable pub idle : State → Bool
idle s = eqb s.running 16

-- the place is empty
unfoldable pub vacant : State → ℕ → Bool
vacant s p = eqb (identity_at s p) 0

unfoldable pub beyond : ℕ → ℕ → ℕ → Bool
beyond limit offset size = ltb limit (offset + size)

unfoldable pub tests : State → Call → Tests
tests s (create p i) = (6, ltb 15 p) then (7, not (vacant s p)) then (9, eqb i 0) then accept
tests s exit = (4, idle s) then accept
tests s (heap_write p o v) =
    (4, idle s) then (6, ltb 15 p) then (8, not (eqb p s.running)) then (11, beyond 256 o (length v)) then accept
tests s (heap_read p o n) =
    (4, idle s) then (6, ltb 15 p) then (8, not (eqb p s.running)) then (11, beyond 256 o n) then accept
tests s (shared_write o v) = (11, beyond 1024 o (length v)) then accept
tests s (shared_read o n) = (11, beyond 1024 o n) then accept
tests s (attest o n) =
    (4, idle s) then (11, beyond 256 o n)
    then (13, not (paired (caller s) (own_part s o n) s.log) && full s.log n) then accept
tests s (check i g v) = (9, eqb i 0) then accept
tests s (protect i o n d) =
    (4, idle s) then (9, eqb i 0) then (11, beyond 256 o n) then (12, leb (2 ^ 48) d.0) then (14, full s.escrow n)
    then accept
tests s (retrieve i o h) =
    (4, idle s) then (9, eqb i 0) then (10, absent (found s i h))
    then (11, beyond 256 o (length (value_in (found s i h)))) then accept
tests s report = accept
-- place 16 has no identity, and is not empty
tests s (hand_over p) = (6, ltb 16 p) then (7, ltb p 16 && vacant s p) then accept
tests s (chain first v) = (4, idle s) then follow s.log (found s) 16 first v
tests s (release i h) = (4, idle s) then (9, eqb i 0) then (10, absent (found s i h)) then accept

unfoldable pub refusal : State → Call → ℕ
refusal s c = first_holding (tests s c)

-- ---- what an accepted call does

-- the entry that an accepted protect adds
unfoldable pub protected : State → ℕ → ℕ → ℕ → Draw → Escrowed
protected s recipient o n d =
    record {
      key = record { source = caller s; recipient = recipient; handle = free_handle n d s.escrow; mark = 0 };
      value = own_part s o n;
    }

unfoldable pub move : State → Call → Move
move s (create p i) = takes p i
move s exit = empties s.running
move s (heap_write p o v) = writes s.running o v
move s (heap_read p o n) = nothing
move s (shared_write o v) = shares o v
move s (shared_read o n) = nothing
move s (attest o n) = logs (pair_of (caller s) (own_part s o n))
move s (check i g v) = nothing
move s (protect i o n d) = escrows (protected s i o n d)
move s (retrieve i o h) = writes s.running o (value_in (found s i h))
move s report = nothing
move s (hand_over p) = activates p
move s (chain first v) = nothing
move s (release i h) = releases i (caller s) h

-- ---- moves on the state

abbrev pub with_places : State → (identities : List ℕ) (running : ℕ) (heaps : List (List ℕ)) → State
with_places s identities running heaps =
    record {
      identities = identities;
      running = running;
      heaps = heaps;
      shared = s.shared;
      log = s.log;
      escrow = s.escrow;
    }

-- what is common to all places
abbrev pub with_common : State → (shared : List ℕ) (log : List Logged) (escrow : List Escrowed) → State
with_common s shared log escrow =
    record {
      identities = s.identities;
      running = s.running;
      heaps = s.heaps;
      shared = shared;
      log = log;
      escrow = escrow;
    }

unfoldable pub apply : State → Move → State
apply s nothing = s
apply s (takes p i) = with_places s (set s.identities p i) s.running s.heaps
apply s (activates p) = with_places s s.identities p s.heaps
apply s (empties p) = with_places s (set s.identities p 0) 16 (set s.heaps p cleared)
apply s (writes p o v) = with_places s s.identities s.running (set s.heaps p (sets (heap_at s p) o v))
apply s (shares o v) = with_common s (sets s.shared o v) s.log s.escrow
apply s (logs e) = with_common s s.shared (with_pair e s.log) s.escrow
apply s (escrows e) = with_common s s.shared s.log (s.escrow ++ (e ∷ []))
apply s (releases i r h) = with_common s s.shared s.log (map (given_up h i r) s.escrow)

unfoldable pub effect : State → Call → State
effect s c = apply s (move s c)

-- ---- what it answers

-- how many places are taken
unfoldable pub services : List ℕ → ℕ
services [] = 0
services (i ∷ is) = cond (eqb i 0) (services is) (1 + services is)

unfoldable pub number : State → Call → ℕ
number s (create p i) = p
number s exit = 0
number s (heap_write p o v) = length v
number s (heap_read p o n) = n
number s (shared_write o v) = length v
number s (shared_read o n) = n
number s (attest o n) = (tag_of (caller s) (own_part s o n)).0
number s (check i g v) = cond (logged i g v s.log) 1 0
number s (protect i o n d) = (free_handle n d s.escrow).0
number s (retrieve i o h) = length (value_in (found s i h))
number s report = services s.identities + 256 * length s.log + 65536 * length s.escrow
number s (hand_over p) = 0
number s (chain first v) = links_from s.log (found s) 16 first v
number s (release i h) = 0

unfoldable pub shown : State → Call → List ℕ
shown s (create p i) = []
shown s exit = []
shown s (heap_write p o v) = []
shown s (heap_read p o n) = own_part s o n
shown s (shared_write o v) = []
shown s (shared_read o n) = part s.shared o n
shown s (attest o n) = []
shown s (check i g v) = []
shown s (protect i o n d) = []
shown s (retrieve i o h) = []
shown s report = []
shown s (hand_over p) = []
shown s (chain first v) = []
shown s (release i h) = []

-- ---- a step

-- answer: code (0 or a refusal), number, record bytes used, and bytes shown
pub record Answer : Type 0 where
  pub code : ℕ
  pub number : ℕ
  pub used : ℕ
  pub shown : List ℕ

-- a refusal shows nothing
unfoldable pub refused_answer : (code number used : ℕ) → Answer
refused_answer code number used = record { code = code; number = number; used = used; shown = [] }

pub record Stepped : Type 0 where
  pub state : State
  pub answer : Answer

-- a refusal alters nothing
unfoldable pub refuse : State → (code number used : ℕ) → Stepped
refuse s code number used = record { state = s; answer = refused_answer code number used }

unfoldable pub accepted : State → Call → ℕ → Stepped
accepted s c used =
    record {
      state = effect s c;
      answer = record { code = 0; number = number s c; used = used; shown = shown s c };
    }

-- refusal 0 is none
unfoldable pub settle : ℕ → State → Call → ℕ → Stepped
settle zero s c used = accepted s c used
settle (suc n) s c used = refuse s (suc n) 0 used

-- a box that refuses calls with these numbers, and accepts them with 0
module _ (refuses : State → Call → ℕ) where
  unfoldable pub step_by : State → Call → ℕ → Stepped
  step_by s c used = settle (refuses s c) s c used

  unfoldable pub reading_by : State → Reading → Stepped
  reading_by s (refused code number) = refuse s code number 0
  reading_by s (whole c used) = step_by s c used

  -- a record's bytes, read and carried out
  unfoldable pub step_on_by : State → List ℕ → Stepped
  step_on_by s bytes = reading_by s (read bytes)

-- the full box
abbrev pub step : State → Call → ℕ → Stepped
step = step_by refusal

abbrev pub on_reading : State → Reading → Stepped
on_reading = reading_by refusal

abbrev pub step_on : State → List ℕ → Stepped
step_on = step_on_by refusal
