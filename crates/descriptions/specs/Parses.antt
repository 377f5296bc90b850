-- What a description left in the buffers, before its outputs are written.
use Rattle.std.specs.Prelude.{List, ℕ, Option}
use Rattle.layouts.specs.Layouts.{LaidOut}
use Rattle.describing.specs.Calls.{ReadsWithin, SoonerBy}
use Rattle.descriptions.specs.declared.Parsed.{Parsed}

pub record Parses (text flat named spots notes before laid : List ℕ) (r : Parsed) : Type 0 where
  pub read : ReadsWithin text flat named spots notes r.found
  pub rows : Option ℕ
  pub lays : LaidOut flat r.found.count rows before laid
  pub sooner : SoonerBy rows r.found.names r.laid
