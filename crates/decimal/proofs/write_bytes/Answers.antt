-- `decimal::write_bytes` meets its contract. Assumes nothing.
use Rattle.std.proofs.Common.{arith, refl}
use Rattle.buffer.specs.Written.{sets-part}
use Rattle.decimal.proofs.write_bytes.Goals as goal

pub returns-then-next-text : goal.returns-then-next-text
returns-then-next-text c =
    let text = c.args.text.now in
    let bytes = c.args.bytes.now in
    record {
      ends = refl;
      holds = λ room. rw c.copy_from_slice.ensures.after (sets-part text c.args.at _ bytes (omega arith) (omega arith));
    }
