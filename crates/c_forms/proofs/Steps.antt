-- What the proofs by hand of slots and handles cite.
pub use Rattle.std.proofs.Common.{◌≡◌, ℕ, List, [], ◌∷◌, ◌++◌, refl, sym, ap, ◌∙◌, subst, true, ◌&&◌, T, lit<}
pub use mir.Syntax.{a_type}
pub use mir.Val.{Val, vptr, vnull, vcons, vnil, has_ty, WT}
pub use mir.MapTy.{inst_fn}
pub use base.Logic.{SProp, ent, id⊢}
pub use base.Fml.{Fml, ftrue, fsep, flft}
pub use prog.Wp.{WpFn}
pub use types.Kit.{Item, ‵, raw, ◌⊛◌, at_ret, ◌$◌, ◌∵◌, !, qed, done, move, keep, split, fsplit, join, suffices, use0, use1, rewrite, feq_i}
pub use types.Run.{stop, fld, lit, of_opd, bin, no_more, and_then, first, branches, exec, returns, enter}
pub use types.ByLocal.{alloc_all, pass_all, free_all, look_at, get, get_in, sets, sets_last, env}
pub use types.Part.{agg, sub, whole}
pub use types.Match.{live}
pub use contract.Running.{tables}
pub use denote.RattleType.{RattleType, owns}
pub use denote.Signature.{types_at, type_at, plain}
pub use denote.RawPtr.{Ptr, block_ptr, null_ptr, ptr_val, tests_null}
pub use denote.Steps.{nothing}
pub use denote.Param.{param, layout, layouts}
pub use denote.Param.Laws.{param_laws}
pub use denote.Triple.Walked.{Stays, stay_dropped, walk_of, Goes-dropped, says, ends_at}
pub use denote.Struct.Owning.{shape}
pub use Rattle.std.specs.declared.option.Option.TheVariants.{None, Some}
pub use Rattle.std.specs.contracts.impls.GlobalAllocator.TheImpl.{ghosts}
pub use Rattle.std.proofs.option.Made.{Some-of, none_of}
pub use Rattle.std.proofs.alloc.Shapes.{after}
pub use Rattle.std.proofs.cell.Inside.{Good, one}
pub use Rattle.std.proofs.ResultValues.{and_tt}
pub use Rattle.std.proofs.raw_atomic.Walks.{proved_at}
pub use Rattle.c_forms.specs.Held.{held}
