-- A chain that passes its tests, as a list of links with their values. Assumes nothing.
use Prim.Native.Nat.{ℕ, zero, suc, ◌+◌, ◌-◌, ◌≤◌, ◌<◌}
use mathlib.Core.Path.{◌≡◌, refl, sym, ap, ◌∙◌, subst}
use mathlib.Core.Bool.{true, false, not, ◌||◌, false≢true}
use mathlib.Core.List.{List, [], ◌∷◌, ◌++◌}
use mathlib.Core.Option.{Option, none, some}
use native.Mathlib.Omega.{arith}
use lib.ListN.{length, get_or, take, drop, take-append-drop, length-append, length-take, length-drop}
use lib.Seq.{take-append_seam, drop-append_seam, drop-drop}
use lib.Dec.{eqb}
use borrow.Author.Tests.{eqb-true, eqb-false, eq-eqb, ne_eqb, ltb-true, ltb-false, le-ltb, lt-ltb, not-false}
use Rattle.fnv.specs.declared.Tag.{Tag}
use Rattle.record.specs.declared.Handle.{Handle}
use Rattle.record.specs.Call.{Link, logged_link, escrowed_link, stray_link, link_by, way_of, identity_of, number_of}
use Rattle.record.specs.Read.{from_little}
use Rattle.ideal.specs.State.{Logged, Escrowed, part}
use Rattle.ideal.specs.Step.{Head, malformed, ends, leads, head_of, is_malformed, next_count, next_cut, next_value, unreadable, bytes_after, after_head, links_after, link_value, unvouched, follow, links_from, logged, absent, value_in, accept, ◌then◌, first_holding}
use Rattle.ideal.specs.Refusals.{leads_on, named_in}
use Rattle.ideal.specs.Accuracy.{LinkValue, link_at, Names, ChainBytes, no_links, logged_then, escrowed_then}
use Rattle.record.proofs.KindRows.{named}
use Rattle.lists.proofs.Bools.{clash, and_right, and_true}
use Rattle.ideal.proofs.Passing.{failed, passed}
use Rattle.ideal.proofs.Heads.{same_leads, HeadIs, is_malformed_lem, is_end, is_next, head_is}
use Rattle.ideal.proofs.Following.{Clear}

abbrev held : Link → List ℕ → LinkValue
held k v = record { link = k; value = v }

-- ---- heads

names_of : (v : List ℕ) (m : Link) → head_of v ≡ leads m → Names v m
unfolding leads_on
names_of v m e = by (head_is v)
  where
    by : HeadIs v → Names v m
    by (is_malformed_lem q a b) = absurd (let z : malformed ≡ leads m = sym q ∙ e in let z : ◌≡◌ {A = ℕ} 0 1 = cc in omega arith)
    by (is_end q a b) = absurd (let z : ends ≡ leads m = sym q ∙ e in let z : ◌≡◌ {A = ℕ} 0 1 = cc in omega arith)
    by (is_next q a b) =
        let same : named_in v ≡ m = same_leads (sym q ∙ e) in
        let is = named (get_or v 0 0) (from_little (part v 1 8)) (from_little (part v 9 8)) in
        rw (← same)
        (record {
          way = sym is.way;
          long = ltb-true 16 (length v) (and_right (eqb (get_or v 0 0) 2 || eqb (get_or v 0 0) 3) _ b);
          identity = sym is.identity;
          number = sym is.number;
        })

-- a link of way 2 or 3, as its numbers name it
record IsWay (m : Link) : Type 0 where
  way : (eqb (way_of m) 2 || eqb (way_of m) 3) ≡ true
  is : link_by (way_of m) (identity_of m) (number_of m) ≡ m

leads_of : (v : List ℕ) (m : Link) → Names v m → IsWay m → head_of v ≡ leads m
unfolding leads_on
leads_of v m n w = by (head_is v)
  where
    on : leads_on v ≡ true
    on = and_true (eqb (get_or v 0 0) 2 || eqb (get_or v 0 0) 3) _ (rw n.way w.way) (lt-ltb 16 (length v) n.long)

    by : HeadIs v → head_of v ≡ leads m
    by (is_malformed_lem q a b) = clash _ on b
    by (is_end q a b) = clash _ on b
    by (is_next q a b) = q ∙ (λ j. leads (link_by (n.way j) (n.identity j) (n.number j))) ∙ ap leads w.is

ends_of : (v : List ℕ) → get_or v 0 0 ≡ 1 → head_of v ≡ ends
ends_of v e = by (head_is v)
  where
    by : HeadIs v → head_of v ≡ ends
    by (is_malformed_lem q a b) = clash _ (eq-eqb _ _ e) a
    by (is_end q a b) = q
    by (is_next q a b) = clash _ (eq-eqb _ _ e) a

one_of : (v : List ℕ) → head_of v ≡ ends → get_or v 0 0 ≡ 1
one_of v e = by (head_is v)
  where
    by : HeadIs v → get_or v 0 0 ≡ 1
    by (is_malformed_lem q a b) = absurd (let z : malformed ≡ ends = sym q ∙ e in let z : ◌≡◌ {A = ℕ} 0 1 = cc in omega arith)
    by (is_end q a b) = eqb-true _ _ a
    by (is_next q a b) = absurd (let z : leads (named_in v) ≡ ends = sym q ∙ e in let z : ◌≡◌ {A = ℕ} 0 1 = cc in omega arith)

-- ---- a chain, link by link

module _ (log : List Logged) (look_up : ℕ → Handle → Option Escrowed) where
  -- a link with a value that is logged, or found in the escrow
  pub data Known (h : LinkValue) : Type 0 where
    in_log : {i : ℕ} {g : Tag} → h.link ≡ logged_link i g → logged i g h.value log ≡ true → Known h
    in_escrow_lem : {i : ℕ} {g : Handle} (e : Escrowed) → h.link ≡ escrowed_link i g → look_up i g ≡ some e → e.value ≡ h.value
        → Known h

  pub record Stands (h : LinkValue) : Type 0 where
    pub named : identity_of h.link ≡ 0 → ⊥
    pub known : Known h

  pub record Passed (k : Link) (bs v : List ℕ) : Type 0 where
    pub clear : Clear log look_up k bs
    pub value : link_value log look_up k bs ≡ v

  pub data Followed : Link → List ℕ → List LinkValue → Type 0 where
    ends_here : {k : Link} {bs v : List ℕ} → Passed k bs v → head_of v ≡ ends → bytes_after k bs ≡ [] → Followed k bs (held k v ∷ [])
    leads_on_lem : {k m : Link} {bs v : List ℕ} {hs : List LinkValue} → Passed k bs v → head_of v ≡ leads m
        → Followed m (bytes_after k bs) hs → Followed k bs (held k v ∷ hs)

  -- ---- from the tests to the links

  pub record OfTests (left : ℕ) (k : Link) (bs : List ℕ) : Type 0 where
    pub links : List LinkValue
    pub followed : Followed k bs links
    pub few : length links ≤ left
    pub count : links_from log look_up left k bs ≡ length links

  nothing_left : (l : List ℕ) → first_holding ((19, not (eqb (length l) 0)) then accept) ≡ 0 → l ≡ []
  nothing_left [] z = refl
  nothing_left (b ∷ l) z =
      let n = eqb-true (length (b ∷ l)) 0 (not-false _ (failed 18 (not (eqb (length (b ∷ l)) 0)) accept z)) in absurd (omega arith)

  sixteen_followed : (k : Link) (bs : List ℕ) → first_holding (follow log look_up 0 k bs) ≡ 0 → ⊥
  unfolding follow first_holding
  sixteen_followed k bs z = omega arith

  one_more : (left : ℕ) (k : Link) (bs : List ℕ) → Clear log look_up k bs
      → let v = link_value log look_up k bs in
      ((m : Link) → first_holding (follow log look_up left m (bytes_after k bs)) ≡ 0 → OfTests left m (bytes_after k bs))
      → (h : Head) → head_of v ≡ h → is_malformed h ≡ false → first_holding (after_head (follow log look_up left) h (bytes_after k bs)) ≡ 0
      → OfTests (suc left) k bs
  unfolding is_malformed after_head links_from links_after
  one_more left k bs c later malformed e h z = absurd (false≢true (sym h))
  one_more left k bs c later ends e h z =
      record {
        links = held k (link_value log look_up k bs) ∷ [];
        followed = ends_here (record { clear = c; value = refl }) e (nothing_left (bytes_after k bs) z);
        few = omega arith;
        count = rw e;
      }
  one_more left k bs c later (leads m) e h z =
      let rest = later m z in
      record {
        links = held k (link_value log look_up k bs) ∷ rest.links;
        followed = leads_on_lem (record { clear = c; value = refl }) e rest.followed;
        few = omega (arith, rest.few);
        count = rw e (omega (arith, rest.count));
      }

  pub of_tests : (left : ℕ) (k : Link) (bs : List ℕ) → first_holding (follow log look_up left k bs) ≡ 0 → OfTests left k bs
  unfolding follow
  of_tests zero k bs z = absurd (sixteen_followed k bs z)
  of_tests (suc left) k bs z =
      let z₁ = passed 18 (unreadable k bs) _ z in
      let z₂ = passed 8 (eqb (identity_of k) 0) _ z₁ in
      let z₃ = passed 17 (unvouched log look_up k bs) _ z₂ in
      let c : Clear log look_up k bs =
      record { reads = failed 18 (unreadable k bs) _ z; named = failed 8 _ _ z₁; vouched = failed 17 _ _ z₂ } in
      one_more left k bs c (λ m. of_tests left m (bytes_after k bs)) (head_of (link_value log look_up k bs)) refl (failed 18 _ _ z₃)
      (passed 18 _ _ z₃)

  -- ---- and back

  pub to_tests : {k : Link} {bs : List ℕ} {hs : List LinkValue} (left : ℕ) → Followed k bs hs → length hs ≤ left
      → (first_holding (follow log look_up left k bs) ≡ 0) × (links_from log look_up left k bs ≡ length hs)
  unfolding follow first_holding links_from is_malformed after_head links_after
  to_tests zero (ends_here p e b) l = absurd (omega arith)
  to_tests zero (leads_on_lem p e f) l = absurd (omega arith)
  to_tests (suc left) (ends_here p e b) l =
      let c = p.clear in
      (rw (c.reads, c.named, c.vouched, p.value, e, b), rw (p.value, e))
  to_tests {k = k} {bs = bs} (suc left) (leads_on_lem {m = m} {v = v} {hs = hs} p e f) l =
      let c = p.clear in
      let later = to_tests {k = m} left f (omega arith) in
      (rw (c.reads, c.named, c.vouched, p.value, e) later.0, rw (p.value, e, later.1) (omega arith))

  -- ---- the links by index

  pub record Links (k : Link) (bs : List ℕ) (hs : List LinkValue) : Type 0 where
    pub least : 1 ≤ length hs
    pub begins : (link_at hs 0).link ≡ k
    pub leads : (j : ℕ) → suc j < length hs → Names (link_at hs j).value (link_at hs (suc j)).link
    pub ends : get_or (link_at hs (length hs - 1)).value 0 0 ≡ 1
    pub stands : (j : ℕ) → j < length hs → Stands (link_at hs j)
    pub bytes : ChainBytes hs bs

  -- a link's value, at the front of the chain bytes where it is logged
  bytes_of : (k : Link) (bs v : List ℕ) (hs : List LinkValue) → Passed k bs v → ChainBytes hs (bytes_after k bs)
      → ChainBytes (held k v ∷ hs) bs
  unfolding link_value unreadable bytes_after next_cut next_value next_count
  bytes_of (logged_link i g) bs v hs p rest =
      let n = next_count bs in
      let fits = ltb-false (length bs) (2 + n) p.clear.reads in
      let v₁ : take n (drop 2 bs) ≡ v = p.value in
      let whole : take 2 bs ++ (v ++ drop (2 + n) bs) ≡ bs =
      rw (← v₁, ← drop-drop n 2 bs, take-append-drop n (drop 2 bs)) (take-append-drop 2 bs) in
      let size : from_little (take 2 bs) ≡ length v = rw (← v₁) (omega (arith, length-take n (drop 2 bs), length-drop 2 bs)) in
      subst (λ x. ChainBytes (held (logged_link i g) v ∷ hs) x) whole
      (logged_then (take 2 bs) refl (omega (arith, length-take 2 bs)) size rest)
  bytes_of (escrowed_link i g) bs v hs p rest = escrowed_then refl rest
  bytes_of (stray_link w i x) bs v hs p rest = absurd (false≢true (sym p.clear.reads))

  found_of : (o : Option Escrowed) → absent o ≡ false → (e : Escrowed) × (o ≡ some e) × (e.value ≡ value_in o)
  unfolding absent value_in
  found_of none a = absurd (false≢true (sym a))
  found_of (some e) a = (e, refl, refl)

  known_of : (k : Link) (bs v : List ℕ) → Passed k bs v → Known (held k v)
  unfolding link_value unvouched
  known_of (logged_link i g) bs v p =
      let yes = not-false (logged i g (next_value bs) log) p.clear.vouched in
      in_log refl (ap (λ x. logged i g x log) (sym p.value) ∙ yes)
  known_of (escrowed_link i h) bs v p =
      let (entry, is, value) = found_of (look_up i h) p.clear.vouched in
      in_escrow_lem entry refl is (value ∙ p.value)
  known_of (stray_link w i x) bs v p = absurd (false≢true (sym p.clear.vouched))

  stands_of : (k : Link) (bs v : List ℕ) → Passed k bs v → Stands (held k v)
  stands_of k bs v p = record { named = eqb-false (identity_of k) 0 p.clear.named; known = known_of k bs v p }

  pub links_of : {k : Link} {bs : List ℕ} {hs : List LinkValue} → Followed k bs hs → Links k bs hs
  unfolding link_at
  links_of (ends_here {k = k} {bs = bs} {v = v} p e b) =
      record {
        least = omega arith;
        begins = refl;
        leads = λ j l. absurd (omega arith);
        ends = one_of v e;
        stands = elim [ zero ↦ λ l. stands_of k bs v p | suc j ↦ λ l. absurd (omega arith) ];
        bytes = bytes_of k bs v [] p (rw b no_links);
      }
  links_of (leads_on_lem {k = k} {bs = bs} {v = v} {hs = hs} p e f) =
      let rest = links_of f in
      let least = rest.least in
      let last : suc (length hs - 1) ≡ length (held k v ∷ hs) - 1 = omega arith in
      record {
        least = omega arith;
        begins = refl;
        leads = elim [ zero ↦ λ l. names_of v _ (e ∙ ap leads (sym rest.begins)) | suc j ↦ λ l. rest.leads j (omega arith) ];
        ends = subst (λ j. get_or (link_at (held k v ∷ hs) j).value 0 0 ≡ 1) last rest.ends;
        stands = elim [ zero ↦ λ l. stands_of k bs v p | suc j ↦ λ l. rest.stands j (omega arith) ];
        bytes = bytes_of k bs v hs p rest.bytes;
      }

  -- the link at the front of the chain bytes, and the chain bytes behind it
  pub record Front (h : LinkValue) (hs : List LinkValue) (bs : List ℕ) : Type 0 where
    pub passed : Passed h.link bs h.value
    pub left : ChainBytes hs (bytes_after h.link bs)

  -- a list of two counts and a value, and what is behind it
  module _ (count v rest : List ℕ) (two : length count ≡ 2) (size : from_little count ≡ length v) where
    abbrev bs : List ℕ
    bs = count ++ (v ++ rest)

    count_is : next_count bs ≡ length v
    unfolding next_count
    count_is = ap (λ n. from_little (take n bs)) (sym two) ∙ ap from_little (take-append_seam count (v ++ rest)) ∙ size

    behind : drop 2 bs ≡ v ++ rest
    behind = ap (λ n. drop n bs) (sym two) ∙ drop-append_seam count (v ++ rest)

    value_is : next_value bs ≡ v
    unfolding next_value
    value_is = rw (count_is, behind) (take-append_seam v rest)

    whole_is : next_cut bs ≡ false
    unfolding next_cut
    whole_is = rw count_is (le-ltb (length bs) (2 + length v) (omega (arith, length-append count (v ++ rest), length-append v rest)))

    left_is : drop (2 + next_count bs) bs ≡ rest
    left_is = rw count_is (sym (drop-drop (length v) 2 bs) ∙ ap (drop (length v)) behind ∙ drop-append_seam v rest)

  way_known : (h : LinkValue) → Known h → IsWay h.link
  unfolding link_by way_of identity_of number_of
  way_known h (in_log w y) = rw w (record { way = refl; is = refl })
  way_known h (in_escrow_lem e w is value) = rw w (record { way = refl; is = refl })

  logged_known : (h : LinkValue) {i : ℕ} {g : Tag} → h.link ≡ logged_link i g → Known h → logged i g h.value log ≡ true
  logged_known h {i} {g} w (in_log {i = j} {g = f} u y) =
      let same : logged_link j f ≡ logged_link i g = sym u ∙ w in
      let a : j ≡ i = cc in
      let b : f ≡ g = cc in
      subst (λ x. logged x g h.value log ≡ true) a (subst (λ x. logged j x h.value log ≡ true) b y)
  logged_known h {i} {g} w (in_escrow_lem {i = j} {g = f} e u is value) =
      absurd (let other : escrowed_link j f ≡ logged_link i g = sym u ∙ w in let z : ◌≡◌ {A = ℕ} 0 1 = cc in omega arith)

  found_known : (h : LinkValue) {i : ℕ} {g : Handle} → h.link ≡ escrowed_link i g → Known h
      → (absent (look_up i g) ≡ false) × (value_in (look_up i g) ≡ h.value)
  unfolding absent value_in
  found_known h {i} {g} w (in_log {i = j} {g = f} u y) =
      absurd (let other : logged_link j f ≡ escrowed_link i g = sym u ∙ w in let z : ◌≡◌ {A = ℕ} 0 1 = cc in omega arith)
  found_known h {i} {g} w (in_escrow_lem {i = j} {g = f} e u is value) =
      let same : escrowed_link j f ≡ escrowed_link i g = sym u ∙ w in
      let a : j ≡ i = cc in
      let b : f ≡ g = cc in
      let found : look_up i g ≡ some e = subst (λ x. look_up x g ≡ some e) a (subst (λ x. look_up j x ≡ some e) b is) in
      (rw found, rw found value)

  no_bytes : {bs : List ℕ} → ChainBytes [] bs → bs ≡ []
  no_bytes no_links = refl

  front_of : (h : LinkValue) (hs : List LinkValue) (bs : List ℕ) → Stands h → ChainBytes (h ∷ hs) bs → Front h hs bs
  unfolding unreadable bytes_after link_value unvouched
  front_of h hs _ s (logged_then {bs = rest} count w two size left) =
      let v = h.value in
      record {
        passed =
            record {
              clear =
                  record {
                    reads = rw (w, whole_is count v rest two size);
                    named = ne_eqb (identity_of h.link) 0 s.named;
                    vouched = rw (w, value_is count v rest two size, logged_known h w s.known);
                  };
              value = rw w (value_is count v rest two size);
            };
        left = rw (w, left_is count v rest two size) left;
      }
  front_of h hs bs s (escrowed_then w left) =
      record {
        passed =
            record {
              clear =
                  record {
                    reads = rw w;
                    named = ne_eqb (identity_of h.link) 0 s.named;
                    vouched = rw w (found_known h w s.known).0;
                  };
              value = rw w (found_known h w s.known).1;
            };
        left = rw w left;
      }

  pub followed_of : (hs : List LinkValue) (k : Link) (bs : List ℕ) → Links k bs hs → Followed k bs hs
  unfolding link_at
  followed_of [] k bs l = let n = l.least in absurd (omega arith)
  followed_of (h ∷ []) k bs l =
      let f = front_of h [] bs (l.stands 0 (omega arith)) l.bytes in
      subst (λ x. Followed x bs (h ∷ [])) l.begins (ends_here f.passed (ends_of h.value l.ends) (no_bytes f.left))
  followed_of (h ∷ (g ∷ hs)) k bs l =
      let f = front_of h (g ∷ hs) bs (l.stands 0 (omega arith)) l.bytes in
      let last : suc (length (g ∷ hs) - 1) ≡ length (h ∷ g ∷ hs) - 1 = omega arith in
      let rest : Links g.link (bytes_after h.link bs) (g ∷ hs) =
      record {
        least = omega arith;
        begins = refl;
        leads = λ j b. l.leads (suc j) (omega arith);
        ends = subst (λ j. get_or (link_at (h ∷ g ∷ hs) j).value 0 0 ≡ 1) (sym last) l.ends;
        stands = λ j b. l.stands (suc j) (omega arith);
        bytes = f.left;
      } in
      subst (λ x. Followed x bs (h ∷ g ∷ hs)) l.begins
      (leads_on_lem f.passed (leads_of h.value g.link (l.leads 0 (omega arith)) (way_known g (l.stands 1 (omega arith)).known))
      (followed_of (g ∷ hs) g.link (bytes_after h.link bs) rest))
