-- The chain record (01's term). Each call of a chain leaves one, and the next call is given it.
--
--   Chain                   a record
--   opened_chain number p n  the record that an opening leaves: no cycle done; a refused one leaves zeros
--   next_chain number chain  the record that a cycle leaves: one more cycle done; a refused one leaves the record as it was
use Rattle.std.specs.Prelude.{ℕ, zero, suc, ◌+◌}

pub record Chain : Type 0 where
  pub modulus : ℕ
  pub order : ℕ
  -- the count of cycles done
  pub done : ℕ

unfoldable pub opened_chain : ℕ → ℕ → ℕ → Chain
opened_chain zero p n = record { modulus = p; order = n; done = 0 }
opened_chain (suc number) p n = record { modulus = 0; order = 0; done = 0 }

unfoldable pub next_chain : ℕ → Chain → Chain
next_chain zero chain = record { modulus = chain.modulus; order = chain.order; done = chain.done + 1 }
next_chain (suc number) chain = chain
