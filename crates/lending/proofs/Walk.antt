-- The words of a walk by hand over a function's MIR, of the toolchain's own modules, passed on in one place.
pub use base.Fml.{Fml, GName, Lft, Share, fat, fauth, fdead, fdies, feq, flent, flft, fobor, fobs, fres, froom, fsep, ftrue}
pub use base.Logic.{SProp, all, all_e, all_i, apply∗, emp, emp∗, ent, ex, ex_e, fst∗, guard, guard_i, id⊢, mono_l, sep, snd∗, via, wand, wand_i}
pub use contract.Lifetimes.{Lfts, Shares, toks}
pub use contract.Monad.{Fun, Mono, fact, fact_use, fact_i}
pub use contract.Running.{tables}
pub use denote.Array.{Array, Array-Lawful, Array-Makes, Array-Tells, array_vals}
pub use denote.ArrayMemory.{Array-apart, Array-whole}
pub use denote.Builtin.{ArrayOf, SliceRefMutOf, SliceRefOf, u16, u8, usize}
pub use denote.Exit.{Exit, Last, left, yes}
pub use denote.Index.{closes_slice, elem_back, elem_out, elem_put, looks_slice, opens_slice, place_is, shuts_slice}
pub use denote.Laws.{Copy, Is, Lawful, Makes, Tells, shows}
pub use denote.Lend.{Held, lends_shr_slice}
pub use denote.Memory.{cell_at, part_at, pointee, shares}
unfoldable pub use denote.Memory.{part_of}
pub use denote.Plain.{Boolean, Nothing, bool_Lawful, bool_Makes, bool_Tells, bool_vals, Nothing-Lawful, uint_Lawful, uint_Makes, uint_Tells, uint_vals}
pub use denote.RattleType.{Denots, RattleType, Valss, flat, owns}
pub use denote.Ref.{Bor, MutBor}
pub use denote.Shadow.{pure_i, pure_l}
pub use denote.Signature.{Signature, plain, shr_slice_of, types_at}
pub use denote.Slice.{MutSlice, Room, ShrSlice, shr_slice_at, mut_slice_at, coded_holeys, finally, heres, mut_slice_Tells, res-finally, shr_slice_copy, shr_slice_Lawful, shr_slice_Tells, shr_slice_vals, mut_slice_vals, slice_ty, slice_val}
pub use denote.Steps.{heard, nothing, only, owned, peeks}
pub use denote.Struct.Declared.{Declared, fields}
pub use denote.Struct.Struct.{Plains}
pub use denote.Triple.Call.{calls_at}
pub use denote.Triple.Clauses.{AtExit, Clauses, Ended, at_exit, closing, ensured, lasts}
pub use denote.Triple.End.{Fins, Kepts}
pub use denote.Triple.Entry.{Args, Res, Vals, on_entry}
pub use denote.Triple.Spec.{Meets, triple_of}
pub use denote.Triple.Statement.{Contract, Triple}
pub use denote.Triple.Table.{cited, entered}
pub use denote.Triple.Walked.{Stays, ends_at, gave_slice, Goes-dropped, Goes-gave_slice, Goes-none, Goes-none_slice, Goes-slice, needs, says, stay_dropped, stay_none, stay_none_slice, stay_slice, walk_Meets, walk_of, walked}
pub use denote.Triple.Weaken.{weaken}
pub use ghost.Atoms.{Atoms}
pub use types.Logic.{sem}
pub use base.Fraction.{full_share}
pub use seplogic.Ra.Ura.{Ura}
pub use mir.Syntax.{Body, Fn, Lifetime, Local, Mutability, Callee as Name, Ty, add, addr_of, aggregate, assign, block, call, cond, copy, deref, erased, exit, field, imm, int, local, loop, lt, memory_slot, mul, mut, named, offset, op2, opd_unit, place, return, rv_opd, seq, skip, ty_array, ty_bool, ty_int, ty_ptr, ty_ref, ty_unit, unsigned, value_local, w16, w64, w8}
pub use mir.Val.{Val, WT, has_ty, of_list, vbool, vint, vptr, vstruct, vunit}
pub use prog.Memory.{Memory, size}
pub use prog.Routine.{Routine}
pub use prog.Wp.{Calls, Env, Heap, Loops, Out, Spot, Tables, Wp, WpFn, after_block, after_seq, alloc, at_return, no_local, release}
unfoldable pub use prog.Wp.{after_turn}
pub use sound.WpLaws.{FmC, WpFn-mono, fm_of}
pub use types.Kit.{ !, Goal, Item, Post, Seq, Sq, ◌$◌, ◌∵◌, ◌⊛◌, aim, allocs, any_q, assume, at_ret, await, by, check, del, done, drop, each, feq_i, feq_l, fjoin, fpack, fpick, frame, frees, fsplit, given, join, keep, lands, later, learn, mean, move, nth, pick, pop, pull, push, qed, raw, rewrite, runs, show, some, split, step, suffices, unpull, updating, use0, use1, use2, ‵, ⋆}
pub use types.Part.{Part, agg, look_in, sub, whole}
pub use types.Run.{Below, Finds, Opds, Reads, Writes, addr, again, alloc0, alloc1, and_then, assigns, assigns_last, bin, blocks, branches, enter, exec, first, fld, forget, free0, free1, from, hop, init, land, leaves_loop, lit, load, look, look_raw, loops, no_more, of_opd, params1, pass0, pass1, returns_within, skips, stays, stop, store, store_raw, un, unit_lit}
pub use types.Share.{arr_parts}
pub use types.Tokens.{lent_back, lft_end, lft_new}
