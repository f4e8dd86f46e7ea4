-- The fresh image and the largest, proved by computation: 116 and 11,508 bytes; and a host's first calls. Assumes nothing.
use Rattle.std.specs.Prelude.{◌≡◌, refl, true, [], ℕ, ◌+◌, ◌*◌, ◌%◌, eqb, pos, negsuc, length, replicate, if◌then◌else◌}
use Rattle.terms.specs.Counted.{list}
use Rattle.terms.specs.Limits.{NODES, OBJECTS, PLACES, FIELDS, ROOTS, MOST, EVENTS, UNREACHED, owner}
use Rattle.terms.specs.Numbers.{ACCEPTED, SHORT, ROOM}
use Rattle.entry.specs.declared.Entry.{Entry}
use Rattle.entry.specs.declared.Entry.TheVariants.{AtOwner, Elsewhere}
use Rattle.entry.specs.Acts.{directory}
use Rattle.entry.specs.Entry.{returns, weight}
use Rattle.table.specs.declared.Message.TheVariants.{Decrement}
use Rattle.table.specs.declared.Table.{Table}
use Rattle.table.specs.Shape.{fits_table}
use Rattle.table.specs.Table.{fresh_table}
use Rattle.image.specs.Reader.{read}
use Rattle.image.specs.Writer.{image}
use Rattle.etzvanul.specs.HostCall.{start_number, start_bytes, check_number, depth_call}
use Rattle.cases.specs.Rules.{rules}

pub fresh_length : length (image fresh_table) ≡ 116
unfolding rules
fresh_length = refl

-- ---- a table that is full in every way

-- every node knows of every object, with the largest numbers
abbrev full_entry : ℕ → ℕ → Entry
full_entry o p =
    if eqb p (owner o)
    then AtOwner (directory MOST (returns (negsuc 999999999)))
    else Elsewhere (record {
      rc = MOST;
      parent = (p + 1) % NODES;
      presence = true;
      msg_ctr = returns (pos MOST);
      ref_weight = weight MOST;
    })

-- every object live, every root and field in use, every place taken by a decrement
abbrev full : Table
full = record {
  count = EVENTS;
  heap = record {
    objects = list OBJECTS (λ o. record { live = true; fields = replicate FIELDS o });
    roots = list NODES (λ p. record { at = replicate ROOTS p });
  };
  cells = list OBJECTS (λ o. record { at = list NODES (λ p. record { held = full_entry o p }) });
  air = list PLACES (λ s. record { held = Decrement 0 1 s (returns (pos MOST)) (weight MOST) });
}

-- it has the shape, and its image is as long as document 01 says the largest is
pub full-length : (fits_table full ≡ true) × (length (image full) ≡ 11508)
unfolding rules
full-length = (refl, refl)

-- read back, both images give their tables again
pub both_read : ((read (image fresh_table)).table ≡ fresh_table) × ((read (image full)).table ≡ full)
unfolding rules
both_read = (refl, refl)

-- ---- a host's first calls

-- the fresh image in a buffer of just its length, and in one that is too short
pub start : (start_number (replicate 116 7) ≡ 116 * 16777216)
    × (start_bytes (replicate 116 7) ≡ image fresh_table)
    × (start_number (replicate 115 7) ≡ ROOM)
unfolding rules
start = (refl, refl, refl)

-- it is accepted, cut short it isn't, and no entry stands in it
pub checked : (check_number (image fresh_table) ≡ ACCEPTED) × (check_number [] ≡ SHORT) × (depth_call (image fresh_table) 0 0 ≡ 256 * UNREACHED)
unfolding rules
checked = (refl, refl, refl)
