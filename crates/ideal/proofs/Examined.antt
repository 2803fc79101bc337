-- The exam: computed on the state, and carried to the tables by law.
use mathlib.Core.Path.{◌≡◌, refl, ◌∙◌}
use mathlib.Core.List.{List, [], ◌∷◌}
use Rattle.fnv.specs.Fnv.{mixed, fnv_from, fnv1a, little, tag_of}
use Rattle.record.specs.Call.{link_by, identity_of}
use Rattle.record.specs.Layout.{stands, kinds, among, kind_of}
use Rattle.record.specs.Read.{cut, unknown, wrong_map, from_little, field, contents, bytes_field, fields, read_fields, read_kind, after_map, read}
use Rattle.ideal.specs.State.{State, cleared, fresh, own_part, any, find, same_bytes, bytes_used}
use Rattle.ideal.specs.Step.{is_pair, is_logged, paired, logged, full, with_pair, is_named, is_escrowed, found, absent, value_in, has_handle, handle_of, next, free_from, free_handle, spent, given_up, first_holding, head_of, is_malformed, next_count, next_cut, next_value, unreadable, bytes_after, after_head, links_after, link_value, unvouched, follow, links_from, idle, vacant, beyond, tests, refusal, protected, move, apply, effect, services, number, shown, Answer, refused_answer, refuse, accepted, settle, reading_by, step_on_by, step_by}
use Rattle.ideal.specs.Tables.{tables}
use Rattle.ideal.specs.Box.{Element, laid, call_on, answers_from}
use Rattle.ideal.specs.Exam.{hex, says, ◌gives◌, questions, asked, expected, Exam}
use Rattle.ideal.specs.Valid.{Valid}
use Rattle.ideal.proofs.Laid.{step_element, fresh_tables_lem, call_is}
use Rattle.ideal.proofs.Kept.{valid_fresh, valid_step}

-- the answers of a list of calls on a state
unfoldable answers_on : State → List Element → List Answer
answers_on s [] = []
answers_on s (e ∷ es) = (step_element s e).answer ∷ answers_on (step_element s e).state es

answers_on_lem : (s : State) (es : List Element) → Valid s → answers_from call_on (tables s) es ≡ answers_on s es
unfolding answers_from answers_on laid
answers_on_lem s [] v = refl
answers_on_lem s (e ∷ es) v = rw (call_is s e v, answers_on_lem (step_element s e).state es (valid_step s e v))

computed : answers_on fresh asked ≡ expected
unfolding answers_on step_element hex says ◌gives◌ questions asked expected mixed fnv_from fnv1a little tag_of link_by identity_of stands kinds among kind_of cut unknown wrong_map from_little field contents bytes_field fields read_fields read_kind after_map read cleared fresh own_part any find same_bytes bytes_used is_pair is_logged paired logged full with_pair is_named is_escrowed found absent value_in has_handle handle_of next free_from free_handle spent given_up first_holding head_of is_malformed next_count next_cut next_value unreadable bytes_after after_head links_after link_value unvouched follow links_from idle vacant beyond tests refusal protected move apply effect services number shown refused_answer refuse accepted settle step_by reading_by step_on_by
computed = refl

pub examined : Exam
examined = rw fresh_tables_lem (answers_on_lem fresh asked valid_fresh ∙ computed)
