-- `mark` meets its contract: refused where the group is marked already, else one word is stored.
use Rattle.std.proofs.Common.{◌+◌, get_or, refl, arith, eq-eqb, ne_eqb}
use Rattle.std.proofs.lemmas.List.{drop-set-lt}
use Rattle.audit.specs.Audit.{group_of, marked}
use Rattle.audit.proofs.mark.Goals as goal

pub returns-then-map-g-ne0 : goal.returns-then-map-g-ne0
unfolding marked
returns-then-map-g-ne0 c =
    let a = c.args in
    record { is = rw (ne_eqb (get_or a.map.now (group_of a.h) 0) 0 c.if-map-g-ne0.true); rest = refl }

pub returns : goal.returns
unfolding marked
returns c =
    let a = c.args in
    record {
      is = rw (eq-eqb (get_or a.map.now (group_of a.h) 0) 0 c.if-map-g-ne0.false);
      rest = drop-set-lt (group_of a.h + 1) a.map.now (group_of a.h) a.word (omega arith);
    }
