-- The names of regions.
use Rattle.std.specs.Prelude.{ℕ, List, codes}
use Rattle.bq_state.specs.declared.region.Region.{Region}
use Rattle.bq_state.specs.declared.region.Region.TheVariants.{Frame, Record}

abbrev pub region_name : Region → List ℕ
region_name Frame = codes "frame"
region_name Record = codes "record"
