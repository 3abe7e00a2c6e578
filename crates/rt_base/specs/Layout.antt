-- The text of a layout.
use Rattle.std.specs.Prelude.{ℕ, List, codes}
use Rattle.rt_base.specs.declared.layout.BlobLayout.{BlobLayout}
use Rattle.rt_base.specs.declared.layout.BlobLayout.TheVariants.{V0, V1}

abbrev pub layout_text : BlobLayout → List ℕ
layout_text V0 = codes "V0"
layout_text V1 = codes "V1"
