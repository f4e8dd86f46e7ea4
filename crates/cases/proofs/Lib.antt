pub mod WriterDetermined
