-- The calls before an index, of two boxes that run two lists: what was logged, protected and released before it in one run, was
-- so in the other. Assumes nothing.
use Prim.Native.Nat.{ℕ, ◌<◌}
use mathlib.Core.Path.{◌≡◌, sym, ap, ◌∙◌, subst}
use mathlib.Core.List.{List}
use Rattle.fnv.specs.declared.Tag.{Tag}
use Rattle.record.specs.declared.Handle.{Handle}
use Rattle.record.specs.Call.{Link}
use Rattle.record.specs.Read.{read}
use Rattle.ideal.specs.Step.{Answer}
use Rattle.ideal.specs.Tables.{Tables}
use Rattle.ideal.specs.Box.{Element, Result, element_at, tables_before, answer_at}
use Rattle.ideal.specs.Refusals.{caller_in, own_bytes}
use Rattle.ideal.specs.Accuracy.{Earlier, LogsAt, ProtectsAt, ReleasesAt, HeldBefore, LinkValue, Vouched, was_logged, was_escrowed, Custody}

abbrev pub Box : Type 0
Box = Tables → Element → Result

-- ---- the call at an index

-- the same code, and the same answer where it is accepted
pub record Alike (x y : Answer) : Type 0 where
  pub code : x.code ≡ y.code
  pub accepted : y.code ≡ 0 → x ≡ y

pub alike_back : {x y : Answer} → Alike x y → Alike y x
alike_back h = record { code = sym h.code; accepted = λ z. sym (h.accepted (sym h.code ∙ z)) }

pub alike_same : {x y : Answer} → x ≡ y → Alike x y
alike_same q = record { code = ap (λ x. x.code) q; accepted = λ z. q }

-- what is logged, protected or released at this index of one run is so in the other
pub record SameCalls (a b : Box) (es fs : List Element) (j : ℕ) : Type 0 where
  pub logs : {i : ℕ} {v : List ℕ} {g : Tag} → LogsAt a es i v g j → LogsAt b fs i v g j
  pub protects : {i r : ℕ} {h : Handle} {v : List ℕ} → ProtectsAt a es i r h v j → ProtectsAt b fs i r h v j
  pub releases : {i r : ℕ} {h : Handle} → ReleasesAt a es i r h j → ReleasesAt b fs i r h j

module _ (a b : Box) (es fs : List Element) (j : ℕ) (e : element_at es j ≡ element_at fs j) (t : tables_before a es j ≡ tables_before b fs j)
    (h : Alike (answer_at a es j) (answer_at b fs j)) where
  logs_too : {i : ℕ} {v : List ℕ} {g : Tag} → LogsAt a es i v g j → LogsAt b fs i v g j
  logs_too l =
      record {
        offset = l.offset;
        size = l.size;
        used = l.used;
        reads = sym (ap (λ y. read y.bytes) e) ∙ l.reads;
        accepts = sym h.code ∙ l.accepts;
        by = sym (ap (λ y. caller_in y) t) ∙ l.by;
        bytes = sym (ap (λ y. own_bytes y l.offset l.size) t) ∙ l.bytes;
        gets = sym (ap (λ y. y.number) (h.accepted (sym h.code ∙ l.accepts))) ∙ l.gets;
      }

  protects_too : {i r : ℕ} {h : Handle} {v : List ℕ} → ProtectsAt a es i r h v j → ProtectsAt b fs i r h v j
  protects_too p =
      record {
        offset = p.offset;
        size = p.size;
        draw = p.draw;
        used = p.used;
        reads = sym (ap (λ y. read y.bytes) e) ∙ p.reads;
        accepts = sym h.code ∙ p.accepts;
        by = sym (ap (λ y. caller_in y) t) ∙ p.by;
        bytes = sym (ap (λ y. own_bytes y p.offset p.size) t) ∙ p.bytes;
        gets = sym (ap (λ y. y.number) (h.accepted (sym h.code ∙ p.accepts))) ∙ p.gets;
      }

  releases_too : {i r : ℕ} {g : Handle} → ReleasesAt a es i r g j → ReleasesAt b fs i r g j
  releases_too p =
      record {
        used = p.used;
        reads = sym (ap (λ y. read y.bytes) e) ∙ p.reads;
        accepts = sym h.code ∙ p.accepts;
        by = sym (ap (λ y. caller_in y) t) ∙ p.by;
      }

  pub same_calls : SameCalls a b es fs j
  same_calls = record { logs = logs_too; protects = protects_too; releases = releases_too }

-- ---- the calls before it

pub record SameBefore (a b : Box) (es fs : List Element) (k : ℕ) : Type 0 where
  pub caller : caller_in (tables_before a es k) ≡ caller_in (tables_before b fs k)
  pub there : (j : ℕ) → j < k → SameCalls a b es fs j
  pub back : (j : ℕ) → j < k → SameCalls b a fs es j

pub back_before : {a b : Box} {es fs : List Element} {k : ℕ} → SameBefore a b es fs k → SameBefore b a fs es k
back_before h = record { caller = sym h.caller; there = h.back; back = h.there }

module _ {a b : Box} {es fs : List Element} {k : ℕ} (h : SameBefore a b es fs k) where
  pub logged_too : {i : ℕ} {v : List ℕ} {g : Tag} → Earlier (LogsAt a es i v g) k → Earlier (LogsAt b fs i v g) k
  logged_too x =
      let j = x.index in
      let l = x.before in
      record { index = j; before = l; there = (h.there j l).logs x.there }

  pub held_too : {i : ℕ} {g : Handle} {v : List ℕ} → HeldBefore a es k i g v → HeldBefore b fs k i g v
  held_too {i} {g} {v} x =
      let j = x.index in
      let l = x.before in
      record {
        index = j;
        before = l;
        there = subst (λ r. ProtectsAt b fs i r g v j) h.caller ((h.there j l).protects x.there);
        since = λ m n o r.
            x.since m n o ((h.back m o).releases (subst (λ c. ReleasesAt b fs i c g m) (sym h.caller) r));
      }

  vouched_too : {g : LinkValue} → Vouched a es k g → Vouched b fs k g
  vouched_too (was_logged w x) = was_logged w (logged_too x)
  vouched_too (was_escrowed w x) = was_escrowed w (held_too x)

  pub custody_too : {first : Link} {v : List ℕ} {n : ℕ} → Custody a es k first v n → Custody b fs k first v n
  custody_too c =
      record {
        links = c.links;
        count = c.count;
        least = c.least;
        most = c.most;
        begins = c.begins;
        leads = c.leads;
        ends = c.ends;
        vouched = λ j l. vouched_too (c.vouched j l);
        bytes = c.bytes;
      }
