use Rattle.std.proofs.Common.{◌≡◌, ℕ, ◌-◌, ◌^◌, List, [], ◌++◌, length, replicate, false, decimal, ap₂, append-nil, arith}
use Rattle.std.specs.Fmt.{padded_integral, char_count, format_spec}
use Rattle.report.specs.Names.{order_name}
use Rattle.report.proofs.names.OrderDisplay.fmt.Goals as goal

six_digits : (n : ℕ) → padded_integral (format_spec 32 0 4 6 (2 ^ 64 - 1)) false [] (decimal n) ≡ order_name n
unfolding padded_integral char_count
six_digits n =
    let width : 6 - length (decimal n) - 0 - 0 ≡ 6 - length (decimal n) = omega arith in
    ap₂ (λ (zeros : ℕ) (digits : List ℕ). replicate zeros 48 ++ digits) width (append-nil (decimal n))

pub returns-clause-writes : goal.returns-clause-writes
returns-clause-writes g c = rw (c.laid_out.ensures, six_digits c.args.self.now.0) at c.write.ensures.writes
