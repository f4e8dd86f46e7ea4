-- The writer's promises determine what comes of a call (specs/Determined.antt has all others): they tell answer, length and buffer apart.
-- Assumes nothing.
use Rattle.std.specs.Prelude.{◌≡◌, List, ℕ}
use Rattle.std.proofs.Common.{ap₂}
use Rattle.table.specs.declared.Table.{Table}
use Rattle.image.specs.Writer as image
use Rattle.image.specs.Writer.{put_answer, put_length, put_bytes, write_answer, write_length, write_bytes}
use Rattle.cases.specs.Determined.{Determined, Left, Tells, both_named}

-- a promise that tells the three apart leaves nothing open
pub told : (answer size : ℕ) (bytes : List ℕ) → Determined (Tells answer size bytes)
told answer size bytes r s p q = both_named (record { answer = answer; length = size }) bytes r s (whole r p) (whole s q)
  where
    whole : (l : Left image.Written (List ℕ)) → Tells answer size bytes l → (l.back ≡ record { answer = answer; length = size }) × (l.lent ≡ bytes)
    whole l w = (ap₂ (λ (a n : ℕ). record { answer = a; length = n }) w.number w.length, w.buffer)

-- `write`
pub write_determined : (t : Table) (out : List ℕ) → Determined (Tells (write_answer t out) (write_length t out) (write_bytes t out))
write_determined t out = told (write_answer t out) (write_length t out) (write_bytes t out)

-- `put_image`
pub put_determined : (t : Table) (out : List ℕ) → Determined (Tells (put_answer t out) (put_length t out) (put_bytes t out))
put_determined t out = told (put_answer t out) (put_length t out) (put_bytes t out)
