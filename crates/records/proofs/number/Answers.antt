-- The bytes stand at the front of eight, with zeros behind them (`number_copied`).
use Prim.Native.Nat.{◌+◌, ◌-◌}
use mathlib.Core.Path.{◌≡◌, ◌∙◌}
use native.Mathlib.Omega.{arith}
use Rattle.records.proofs.Numbers.{number_copied}
use Rattle.records.proofs.number.Goals as goal

pub returns : goal.returns
returns g c =
    let size : c.args.at + g.row.N - c.args.at ≡ g.row.N = omega arith in
    let part = rw size at c.copy_from_slice.ensures.after in
    c.from_le_bytes.ensures ∙ number_copied c.args.bytes.now c.copy_from_slice.new.self c.args.at g.row.N c.requires.size c.requires.inside part
