-- The relative rule looks at reads alone.
use Rattle.std.proofs.Common.{◌≡◌, List, [], ◌∷◌, refl, ap}
use Rattle.rt_base.specs.declared.ids.TogetherDecl.{TogetherDecl}
use Rattle.item_model.specs.Work.{Work, of_reads, apart_in, first_of_both, first_apart}

pub apart_of_reads : (work : Work) (together : List TogetherDecl) → first_apart (of_reads work.reads) together ≡ first_apart work together
apart_of_reads work [] = refl
apart_of_reads work (group ∷ groups) = ap (first_of_both (apart_in work group)) (apart_of_reads work groups)
