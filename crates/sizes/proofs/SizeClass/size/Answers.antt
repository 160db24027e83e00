-- `SizeClass::size` meets its contract: a shift by less than 62 loses no bit of 64.
use Rattle.std.proofs.Common.{◌≡◌, ◌*◌, ◌%◌, ◌^◌, ◌≤◌, ◌∙◌, sym, arith, lit<, lt-ltb, le-ltb, shl_exact}
use Rattle.sizes.specs.Class.{size_of, size_word}
use Rattle.sizes.proofs.Laws.{size_mono}
use Rattle.sizes.proofs.SizeClass.size.Goals as goal

pub returns-then-c-ge62 : goal.returns-then-c-ge62
unfolding size_word
returns-then-c-ge62 c = record { is = sym (rw (le-ltb c.args.c 62 (omega arith))); exact = λ h. omega arith; most = omega arith }

pub returns : goal.returns
unfolding size_of size_word
returns c =
    let e : 4 * 2 ^ c.args.c % 2 ^ 64 ≡ 4 * 2 ^ c.args.c = shl_exact 3 c.args.c 64 (lit< tt) (omega arith) in
    let l : c.args.c ≤ 61 = omega arith in
    record {
      is = e ∙ sym (rw (lt-ltb c.args.c 62 (omega arith)));
      exact = λ h. e;
      most = omega (arith, e, size_mono l);
    }
