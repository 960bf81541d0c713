pub mod CsrFile
