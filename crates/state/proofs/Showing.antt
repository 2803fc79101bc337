-- A call that shows bytes: what it leaves and answers, by the number of its refusal. Assumes nothing.
use Prim.Native.Nat.{ℕ, zero, suc}
use mathlib.Core.Path.{◌≡◌, refl, sym, ap, ◌∙◌}
use mathlib.Core.List.{List, [], ◌++◌}
use lib.ListN.{length, take, drop}
use lib.Seq.{take_at}
use Rattle.record.specs.Call.{Call}
use Rattle.ideal.specs.Step.{refusal, step}
use Rattle.ideal.specs.Tables.{Tables, tables, state_of}
use Rattle.ideal.specs.Box.{laid, output_after}
use Rattle.state.specs.declared.Answer.{Answer}
use Rattle.state.specs.Answers.{settled, showed}
use Rattle.state.proofs.Settled.{answer_of, settled_result, Moves, laid_step}

-- a read leaves the tables; what it shows is the front of the output buffer, the remainder is as before
pub record Shows (t : Tables) (c : Call) (used : ℕ) (a : Answer) (before after : List ℕ) : Type 0 where
  pub answers : laid (step (state_of t) c used) ≡ record { tables = t; answer = answer_of a used (take a.shown after) }
  pub output : after ≡ output_after (step (state_of t) c used).answer before
  pub count : a.shown ≡ length (step (state_of t) c used).answer.shown

-- ---- a call that shows v, n bytes, and leaves the tables

module _ (t : Tables) (used n : ℕ) (v output : List ℕ) where
  front_settled : (r : ℕ) → (r ≡ 0 → length v ≡ n) → settled_result r t t n v used
      ≡ record { tables = t; answer = answer_of (showed r n) used (take (showed r n).shown (settled r output (v ++ drop n output))) }
  unfolding settled showed
  front_settled zero h = rw (take_at v (drop n output) n (h refl))
  front_settled (suc r) h = refl

  output_settled : (r : ℕ) → (r ≡ 0 → length v ≡ n)
      → settled r output (v ++ drop n output) ≡ output_after (settled_result r t t n v used).answer output
  unfolding settled output_after
  output_settled zero h = rw (h refl)
  output_settled (suc r) h = refl

  count_settled : (r : ℕ) → (r ≡ 0 → length v ≡ n) → (showed r n).shown ≡ length (settled r [] v)
  unfolding settled showed
  count_settled zero h = sym (h refl)
  count_settled (suc r) h = refl

  pub shows : (c : Call) → tables (state_of t) ≡ t → Moves t t c n v → (refusal (state_of t) c ≡ 0 → length v ≡ n)
      → Shows t c used (showed (refusal (state_of t) c) n) output (settled (refusal (state_of t) c) output (v ++ drop n output))
  unfolding laid
  shows c e m h =
      let r = refusal (state_of t) c in
      let s = laid_step used e m in
      record {
        answers = s ∙ front_settled r h;
        output = output_settled r h ∙ sym (ap (λ x. output_after x.answer output) s);
        count = count_settled r h ∙ sym (ap (λ x. length x.answer.shown) s);
      }
