-- `audit` meets its contract: refused with 1 or 8, or judged on a cleared map, which is cleared again with 9.
use Rattle.std.proofs.Common.{◌≡◌, ℕ, false, ◌/◌, ◌≤◌, List, ◌++◌, length, take, drop, replicate, ap, length-take-le, sym, ◌∙◌, arith, lt-ltb, le-ltb}
use Rattle.words.specs.Runs.{filled}
use Rattle.words.specs.RunLaws.{length_filled}
use Rattle.pool.specs.Numbers.{◌or_else◌, given, over_limit}
use Rattle.pool.proofs.Facts.{within_facts}
use Rattle.audit.specs.Audit.{audit, audit_number, verdict}
use Rattle.audit.specs.Passes.{filled_start, filled_again}
use Rattle.audit.proofs.Used.{accepted_used}
use Rattle.audit.proofs.audit.Goals as goal

-- the used words, where the limits are kept
used_cut : (used : ℕ) (ws : List ℕ) (table : ℕ) → over_limit used (length ws) table ≡ false → length (take used ws) ≡ used
used_cut used ws table e = length-take-le used ws (within_facts used (length ws) table e).below

-- the first words of the map, filled with 0
cleared : (map part : List ℕ) (n : ℕ) → n ≤ length map → part ≡ replicate (length (take n map)) 0 → part ++ drop n map ≡ filled map 0 n 0
cleared map part n h e = rw (e, length-take-le n map h, filled_start map n 0 h)

pub returns-then-over_limit : goal.returns-then-over_limit
unfolding audit audit_number given ◌or_else◌
returns-then-over_limit c = rw (c.refused.ensures, ← c.over_limit.ensures, c.if-over_limit.true)

pub slice_bounds-used-end : goal.slice_bounds-used-end
slice_bounds-used-end c = let a = c.args in sym (used_cut a.state.used a.pool.now _ (sym c.over_limit.ensures ∙ c.if-over_limit.false))

pub returns-then-map-groups : goal.returns-then-map-groups
unfolding audit audit_number given ◌or_else◌
returns-then-map-groups c =
    let a = c.args in
    let cut = used_cut a.state.used a.pool.now _ (sym c.over_limit.ensures ∙ c.if-over_limit.false) in
    rw (c.refused-then-map-groups.ensures, ← c.over_limit.ensures, c.if-over_limit.false, lt-ltb (length a.map.now) (a.state.used / 4) (rw cut at c.if-map-groups.true))

pub accepted-requires : goal.accepted-requires
accepted-requires c =
    let a = c.args in
    let within = within_facts a.state.used (length a.pool.now) (length a.handles.now) (sym c.over_limit.ensures ∙ c.if-over_limit.false) in
    let n = length (take a.state.used a.pool.now) / 4 in
    let cut = used_cut a.state.used a.pool.now _ (sym c.over_limit.ensures ∙ c.if-over_limit.false) in
    let whole = ap length (cleared a.map.now c.fill.new.self n c.if-map-groups.false (c.fill.ensures.after (λ y e. e))) ∙ length_filled a.map.now 0 n 0 in
    (omega (arith, within.fours), within.table_within)

pub returns-in-Ok : goal.returns-in-Ok
unfolding audit audit_number given ◌or_else◌ verdict
returns-in-Ok c =
    let a = c.args in
    let cut = used_cut a.state.used a.pool.now _ (sym c.over_limit.ensures ∙ c.if-over_limit.false) in
    let clean = rw cut at (cleared a.map.now c.fill.new.self _ c.if-map-groups.false (c.fill.ensures.after (λ y e. e))) in
    let judged = rw (cut, accepted_used a.state.used a.pool.now, clean) at c.in-Ok.ensures.is in
    rw (c.done.ensures, ← c.over_limit.ensures, c.if-over_limit.false, le-ltb (length a.map.now) (a.state.used / 4) (rw cut at c.if-map-groups.false), judged)

pub returns-in-Err : goal.returns-in-Err
unfolding audit audit_number given ◌or_else◌ verdict
returns-in-Err c =
    let a = c.args in
    let n = length (take a.state.used a.pool.now) / 4 in
    let cut = used_cut a.state.used a.pool.now _ (sym c.over_limit.ensures ∙ c.if-over_limit.false) in
    let cleared_once = cleared a.map.now c.fill.new.self n c.if-map-groups.false (c.fill.ensures.after (λ y e. e)) in
    let whole = ap length cleared_once ∙ length_filled a.map.now 0 n 0 in
    let long : n ≤ length c.accepted.new.map = omega (arith, c.accepted.auto.map) in
    let again = cleared c.accepted.new.map c.fill-in-Err.new.self n long (c.fill-in-Err.ensures.after (λ y e. e))
    ∙ filled_again a.map.now c.accepted.new.map n 0 c.if-map-groups.false long (c.accepted.ensures.rest ∙ ap (drop n) cleared_once) in
    let judged = rw (cut, accepted_used a.state.used a.pool.now, rw cut at cleared_once) at c.in-Err.ensures.is in
    rw (c.refused-in-Err.ensures, ← c.over_limit.ensures, c.if-over_limit.false, le-ltb (length a.map.now) (a.state.used / 4) (rw cut at c.if-map-groups.false), judged, again, cut)
