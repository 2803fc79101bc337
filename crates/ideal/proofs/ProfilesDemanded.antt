-- The demands, of one box that is given calls of both profiles; and that they fix it. Assumes nothing.
use Prim.Native.Nat.{ℕ, suc}
use mathlib.Core.Path.{◌≡◌, refl, sym, ap, ◌∙◌}
use mathlib.Core.Bool.{Bool, true≢false}
use mathlib.Core.List.{[], ◌∷◌}
use native.Mathlib.Omega.{arith}
use Rattle.record.specs.Call.{Call}
use Rattle.record.specs.Read.{whole, read}
use Rattle.ideal.specs.declared.Profile.{Profile}
use Rattle.ideal.specs.declared.Profile.TheVariants.{Full, LevelOne}
use Rattle.ideal.specs.Tables.{Tables}
use Rattle.ideal.specs.Box.{Element, box_by, element_at, tables_from, answers_from}
use Rattle.ideal.specs.Layouts.{Sound, StaysSound}
use Rattle.ideal.specs.Refusals.{conditions_by}
use Rattle.ideal.specs.Secrecy.{AlikeAt, same, other_bytes, PremiseAt, own_chain}
use Rattle.ideal.specs.Demands.{Demand1By, EachCallBy}
use Rattle.ideal.specs.LevelOne.{box_of}
use Rattle.ideal.specs.LevelOneDemands.{none_exempt, ElseFull, NumbersOf}
use Rattle.ideal.specs.BothProfiles.{both_on, rows_in, both_conditions, is_full, own_full_chain, BothDemands, BothFixed, ProfilesAre, OneProfile}
use Rattle.lists.proofs.Bools.{and_right}
use Rattle.ideal.proofs.OneAnswer.{Whole, accepted_reads}
use Rattle.ideal.proofs.Kept.{stays_sound}
use Rattle.ideal.proofs.TwoRuns.{Stepped}
use Rattle.ideal.proofs.Secret.{Related}
use Rattle.ideal.proofs.FakedSecret.{Keeps, secret, keeps_call, as_other}
use Rattle.ideal.proofs.StandIns.{retrieve_kept, release_kept, chain_kept}
use Rattle.ideal.proofs.LevelOneSecret.{keeps, but_less}
use Rattle.ideal.proofs.LevelOneHistory.{Either, is_full_lem, is_one, Bars, turns, holds_either, reports_either, once_either, checks_either, barred_at}
use Rattle.ideal.proofs.LevelOneAttests.{yields_at}
use Rattle.ideal.proofs.Demanded.{demands}
use Rattle.ideal.proofs.LevelOneDemanded.{level_one_demands}
use Rattle.ideal.proofs.FixedCalls.{same_call}
use Rattle.ideal.proofs.LevelOneFixed.{level_one_reads}

-- ---- one call, in each profile

one_in : (p : Profile) → Demand1By (conditions_by (rows_in p)) (box_of p)
one_in Full = demands.one
one_in LevelOne = level_one_demands.one

call_in_lem : (p : Profile) → EachCallBy (conditions_by (rows_in p)) (box_of p)
call_in_lem Full = demands.two.call
call_in_lem LevelOne = level_one_demands.two.call

else_in : (p : Profile) → ElseFull (box_of p)
else_in Full = λ t e h. record { answer = refl; tables = refl }
else_in LevelOne = level_one_demands.else_full

sound_in : (p : Profile) → StaysSound (box_of p)
sound_in Full = stays_sound
sound_in LevelOne = level_one_demands.stays_sound

reads_in : (p : Profile) (t : Tables) (e : Element) → (box_of p t e).answer.code ≡ 0 → Whole e.bytes
reads_in Full = accepted_reads
reads_in LevelOne = level_one_reads

one : Demand1By both_conditions both_on
one =
    record {
      numbers = λ t e. (one_in e.profile).numbers t e;
      alters_nothing = λ t e. (one_in e.profile).alters_nothing t e;
      never_five = λ t e. (one_in e.profile).never_five t e;
      number_only_with_one = λ t e. (one_in e.profile).number_only_with_one t e;
      missing_is_exact = λ t e h.
          let m = (one_in e.profile).missing_is_exact t e h in
          record { fewer = m.fewer; enough = m.enough };
    }

call : EachCallBy both_conditions both_on
call =
    record {
      refuses_no_more = λ t e. (call_in_lem e.profile).refuses_no_more t e;
      does = λ t e. (call_in_lem e.profile).does t e;
      answers = λ t e. (call_in_lem e.profile).answers t e;
      handles_free = λ t e. (call_in_lem e.profile).handles_free t e;
      long_checks = λ t e. (call_in_lem e.profile).long_checks t e;
      release_alters = λ t e. (call_in_lem e.profile).release_alters t e;
    }

-- ---- history

not_both : {p : Profile} → p ≡ Full → p ≡ LevelOne → ⊥
not_both q r = true≢false (ap is_full (sym q ∙ r))

either : (t : Tables) (e : Element) → Either both_on (λ e. e.profile ≡ LevelOne) t e
either t e = at e.profile refl
  where
    at : (p : Profile) → e.profile ≡ p → Either both_on (λ e. e.profile ≡ LevelOne) t e
    at Full q = is_full_lem (not_both q) (ap (λ p. box_of p t e) q)
    at LevelOne q = is_one q (ap (λ p. box_of p t e) q)

free : {t : Tables} {e : Element} → e.profile ≡ Full → Bars (λ e. e.profile ≡ LevelOne) t e → ⊥
free q b = not_both q b.one

-- ---- secrecy

same_profile : {G : ℕ → Bool} {t : Tables} {e f : Element} → AlikeAt G t e f → e.profile ≡ f.profile
same_profile (same q) = ap (λ x. x.profile) q
same_profile (other_bytes g h) = h.profile

module _ {G : ℕ → Bool} {x y : Tables} {e f : Element} (r : Related G x y) (a : AlikeAt G x e f) (p : PremiseAt both_on G x y e) where
  stepped_in : (l : Profile) → e.profile ≡ l → Stepped own_full_chain both_on G (Related G) x y e f
  unfolding own_full_chain
  stepped_in Full q =
      as_other {at = own_chain} keeps_call (rw q) (ap (λ l. box_of l x e) q) (ap (λ l. box_of l y f) (sym (same_profile a) ∙ q)) r a p
  stepped_in LevelOne q =
      as_other {at = none_exempt} keeps (rw q) (ap (λ l. box_of l x e) q) (ap (λ l. box_of l y f) (sym (same_profile a) ∙ q)) r a p

keeps_both : Keeps own_full_chain both_on
keeps_both = record { both = λ {G} {x} {y} {e} r a p. stepped_in r a p e.profile refl }

-- ---- the statements

three_numbers : (t : Tables) (e : Element) (c : Call) (used : ℕ) → e.profile ≡ LevelOne → Sound t e.output_size
    → read e.bytes ≡ whole c used → NumbersOf both_on t e c
three_numbers t e c used q h r =
    let n = level_one_demands.three_numbers t e c used h r in
    let is = ap (λ p. (box_of p t e).answer.code) q in
    record {
      no_escrow = (λ z. n.no_escrow.0 (sym is ∙ z), λ z. is ∙ n.no_escrow.1 z);
      high_place = (λ z. n.high_place.0 (sym is ∙ z), λ z. is ∙ n.high_place.1 z);
      other_value = (λ z. n.other_value.0 (sym is ∙ z), λ z. is ∙ n.other_value.1 z);
    }

pub both_demands : BothDemands both_on
unfolding own_full_chain
both_demands =
    record {
      else_full = λ t e h.
          let a = else_in e.profile t e h in
          record { answer = a.answer; tables = a.tables };
      three_numbers = three_numbers;
      stays_sound = λ t e. sound_in e.profile t e;
      one = one;
      two =
          record {
            call = call;
            checks = checks_either either;
            handles_once = once_either either;
            holds = holds_either either;
            reports = reports_either either;
            retrieves = λ es k i o h used r. retrieve_kept (turns either) es k (free r.0) i o h used r.1;
            releases = λ es k i h used r. release_kept (turns either) es k (free r.0) i h used r.1;
            chains = λ es k first v used r. chain_kept (turns either) es k (free r.0) first v used r.1;
            barred = λ es k c used r kind. barred_at either es k r.0 c used r.1 kind;
            attests = λ es k o n used r. yields_at either es k o n r.0 used r.1;
          };
      three = secret keeps_both;
      secrecy = but_less (λ G t e h. and_right (is_full e.profile) _ h) (secret keeps_both);
    }

pub both_fixed : BothFixed
both_fixed box first each t e =
    same_call call box each t e (reads_in e.profile t e) first.alters_nothing one.alters_nothing

pub profiles_are : ProfilesAre
unfolding box_by
profiles_are = record { full = refl; level_one = refl; blind = λ p q r t bytes size. refl }

pub one_profile : OneProfile
unfolding tables_from answers_from element_at
one_profile p t [] h = record { tables = refl; answers = refl }
one_profile p t (e ∷ es) h =
    let is = ap (λ l. box_of l t e) (h 0 (omega arith)) in
    let rest = one_profile p (box_of p t e).tables es (λ k l. h (suc k) (omega arith)) in
    record {
      tables = ap (λ r. tables_from both_on r.tables es) is ∙ rest.tables;
      answers = (λ i. (is i).answer ∷ answers_from both_on (is i).tables es) ∙ ap (λ l. (box_of p t e).answer ∷ l) rest.answers;
    }
