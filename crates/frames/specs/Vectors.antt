-- The counts that document 01 has refused ("Host frames"). Those beside them, 80, 127, 128 and 2,120, are in table (d):
-- `determined/specs/Table.antt`. Assumes nothing.
use Rattle.std.specs.Prelude.{[], ◌∷◌, Err, ◌≡◌, refl}
use Rattle.counts.specs.Count.{groups_of, count_bytes, up_to, joined, count_from, count_at}
use Rattle.counts.specs.Payload.{check_of}
use Rattle.counts.specs.declared.Refusal.TheVariants.{Short, Count}
use Rattle.frames.specs.Frame.{limit_of, framed, after_count, scan_of, placed, written_of}

pub record Counts : Type 0 where
  -- 2,121 and 80 00 are 21
  pub n2121 : count_bytes 2121 ≡ 0xC9 ∷ 0x10 ∷ []
  pub read2121 : scan_of (0x00 ∷ 0xC9 ∷ 0x10 ∷ []) ≡ Err Count
  pub write2121 : written_of 265 0 0 2121 [] ≡ Err Count
  pub long : scan_of (0x00 ∷ 0x80 ∷ 0x00 ∷ []) ≡ Err Count
  -- a second count byte with its high bit set is 21, otherwise a slice that ends inside the count is 20
  pub second : scan_of (0x00 ∷ 0x80 ∷ 0x80 ∷ []) ≡ Err Count
  pub inside : scan_of (0x00 ∷ 0x80 ∷ []) ≡ Err Short
  pub reset : scan_of (0x06 ∷ 0x80 ∷ []) ≡ Err Short

-- every one by computing
pub counts : Counts
unfolding groups_of count_bytes up_to joined count_from count_at limit_of check_of framed after_count scan_of placed written_of
counts =
    record {
      n2121 = refl;
      read2121 = refl;
      write2121 = refl;
      long = refl;
      second = refl;
      inside = refl;
      reset = refl;
    }
