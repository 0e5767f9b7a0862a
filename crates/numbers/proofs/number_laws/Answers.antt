use Rattle.numbers.proofs.Ring.{*ℤ-add, *ℤ-neg, *ℤ-assoc, *ℤ-unit, square_low, *ℤ-natural, *ℤ-rises}
use Rattle.numbers.proofs.number_laws.Goals as goal

pub returns : goal.returns
returns c =
    record {
      ring = record { distributes = *ℤ-add; negates = *ℤ-neg; associates = *ℤ-assoc; unit = *ℤ-unit };
      order = record { squares = square_low; products = *ℤ-natural; rises = *ℤ-rises };
    }
