-- Which first fault of a text a reader's answer names.
use Rattle.std.specs.Prelude.{ℕ, List}
use Rattle.gm_forms.specs.BookText.{IsTextFault, IsLimitFault, IsFirstNameFault, TwiceAt, UnknownAt, WrongKindAt}
use Rattle.gm_book.specs.declared.fault.BookFault.{BookFault}
use Rattle.gm_book.specs.declared.fault.BookFault.TheVariants as faults
use Rattle.gm_forms.specs.declared.form_fault.FormFault.{FormFault}
use Rattle.gm_forms.specs.declared.form_fault.FormFault.TheVariants as forms
use Rattle.gm_text.specs.declared.schema_fault.SchemaFault.{SchemaFault}
use Rattle.gm_text.specs.declared.schema_fault.SchemaFault.TheVariants as schemas

-- the fault is the first of the text, or memory ran out
abbrev pub IsFaultOf : List ℕ → BookFault → Type 0
IsFaultOf text (faults.Text place) = IsTextFault text place
IsFaultOf text (faults.Limit what place) = IsLimitFault text what place
IsFaultOf text (faults.Twice place) = IsFirstNameFault text (TwiceAt place)
IsFaultOf text (faults.Unknown place) = IsFirstNameFault text (UnknownAt place)
IsFaultOf text (faults.WrongKind place) = IsFirstNameFault text (WrongKindAt place)
IsFaultOf text faults.OutOfMemory = Unit {0}

-- a fault of the form as one of the book
abbrev pub book_fault_of_form : FormFault → BookFault
book_fault_of_form (forms.Text place) = faults.Text place
book_fault_of_form (forms.Limit what place) = faults.Limit what place
book_fault_of_form forms.OutOfMemory = faults.OutOfMemory

-- a fault of the schema as one of the book
abbrev pub book_fault_of_schema : SchemaFault → BookFault
book_fault_of_schema (schemas.Text place) = faults.Text place
book_fault_of_schema (schemas.Limit what place) = faults.Limit what place
book_fault_of_schema (schemas.Twice place) = faults.Twice place
book_fault_of_schema schemas.OutOfMemory = faults.OutOfMemory
