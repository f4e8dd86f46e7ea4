-- The whole image: the count, the sections one behind the other and the end are the records of the table. Assumes nothing.
use Rattle.std.specs.Prelude.{◌≡◌, List, [], ◌∷◌, ◌++◌, ℕ}
use Rattle.std.proofs.Common.{ap, ◌∙◌, append_assoc}
use Rattle.table.specs.declared.Table.{Table}
use Rattle.image.specs.declared.RecordKind.TheVariants.{Count, End}
use Rattle.image.specs.Records.{Record, row}
use Rattle.image.specs.Stored.{COUNT_BYTES, HEAP_BYTES, CELLS_BYTES, AIR_BYTES, END_BYTES, heap_records, cells_records, air_records}
use Rattle.image.specs.Writer.{bytes_of_all, records_of, image}
use Rattle.writer.specs.Appended.{Appended}
use Rattle.writer.proofs.Behind.{appended_both}

module _ (t : Table) where
  abbrev pub count_record : List Record
  count_record = row Count (t.count ∷ []) ∷ []

  abbrev pub end_record : List Record
  end_record = row End [] ∷ []

  in_order : (((count_record ++ heap_records t.heap) ++ cells_records t.cells) ++ air_records t.air) ++ end_record ≡ records_of t
  unfolding records_of
  in_order = simp append_assoc

  pub whole : {m₁ m₂ m₃ m₄ made : List ℕ} → Appended COUNT_BYTES count_record [] m₁ → Appended HEAP_BYTES (heap_records t.heap) m₁ m₂
      → Appended CELLS_BYTES (cells_records t.cells) m₂ m₃ → Appended AIR_BYTES (air_records t.air) m₃ m₄ → Appended END_BYTES end_record m₄ made
      → made ≡ image t
  unfolding image
  whole count heap cells air end =
      let all = appended_both (appended_both (appended_both (appended_both count heap) cells) air) end in
      all.bytes ∙ ap bytes_of_all in_order
