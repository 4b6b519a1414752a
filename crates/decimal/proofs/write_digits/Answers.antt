-- `decimal::write_digits` meets its contract. Assumes nothing.
use Rattle.std.proofs.Common.{arith, ap, refl, length, take, drop, drop-drop, sym, List, ℕ, ◌++◌, ◌+◌, ◌≤◌, ◌≡◌, ◌∙◌}
use Rattle.std.proofs.lemmas.List.{take-append-drop}
use Rattle.std.proofs.lemmas.List.Edits.{sets}
use Rattle.std.specs.Fmt.{decimal as printed}
use Rattle.buffer.specs.Written.{sets-part}
use Rattle.definition.specs.Text.{decimal}
use Rattle.decimal.specs.Digits.{decimal-printed}
use Rattle.decimal.proofs.write_digits.Goals as goal

-- a list that is changed only from place i on, where vs stands and then what stood after it
placed : (l after vs : List ℕ) (i : ℕ) {start end : ℕ} → start ≡ i → end ≡ i + length vs → end ≤ length l → take start after ≡ take start l
    → drop start after ≡ vs ++ drop end l → after ≡ sets l i vs
placed l after vs i starts ends room before from =
    let front : take i after ≡ take i l = rw starts at before in
    let rest : drop i after ≡ vs ++ drop (i + length vs) l = rw (starts, ends) at from in
    sym (take-append-drop i after) ∙ rw (front, rest, ← drop-drop) (sets-part l i (length vs) vs refl (omega arith))

pub write_digits-requires : goal.write_digits-requires
write_digits-requires c =
    (omega (arith, c.decimal_places.ensures, ap length (decimal-printed c.args.v (omega arith))), omega (arith, c.if-next-text.true))

pub returns-then-next-text : goal.returns-then-next-text
returns-then-next-text c =
    let v = c.args.v in
    let places = c.decimal_places.ensures in
    let digits : decimal v ≡ printed v = decimal-printed v (omega arith) in
    let put = c.write_digits.ensures in
    record {
      ends = omega (arith, places);
      holds = λ room. rw digits
          (placed c.args.text.now c.write_digits.new.buf (printed v) c.args.at (omega (arith, put.start, places, ap length digits))
          (omega (arith, places, ap length digits)) (omega (arith, c.if-next-text.true)) put.before put.written);
    }
