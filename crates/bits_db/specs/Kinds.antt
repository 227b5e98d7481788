-- The kinds of the program, and those of the grammar that they stand for.
use Rattle.grammars.specs.BitsDb as db
use Rattle.bits_db.specs.declared.reader.Kind.{Kind}
use Rattle.bits_db.specs.declared.reader.Kind.TheVariants.{Mux, Word, Enum, Fixed}

abbrev pub kind_view : Kind → db.Kind
kind_view Mux = db.OfMux
kind_view Word = db.OfWord
kind_view Enum = db.OfEnum
kind_view Fixed = db.OfFixed
